-- What `trace` prints (profile): a function of the program, the memory and the options, by the steps of a channel.
use Rattle.std.specs.Prelude.{◌≡◌, ◌≢◌, ℕ, zero, suc, ◌+◌, ◌-◌, ◌*◌, ◌/◌, ◌%◌, ◌^◌, ◌==◌, ◌<◌, ◌≤◌, ◌++◌, ◌&&◌, ◌⊎◌, nat_le, nat_lt, min, Bool, true, false}
use Rattle.std.specs.Prelude.{List, [], length, map, take, drop, flat_map, slice_get, Option, Some, None, Result, Ok, Err, if◌then◌else◌, codes, decimal}
use Rattle.std.specs.List.{range_with_len}
use Rattle.dma_text.specs.Digits.{hex_digits, spaced_bytes}
use Rattle.dma_insn.specs.declared.chip.ChipInsn.TheVariants.{Ld, St, StoreZeros}
use Rattle.dma_insn.specs.{declared.chip.ChipInsn.ChipInsn, AssemblyText.most_program_bytes}
use Rattle.dma_mem.specs.Regions.{Piece, image_of, pieces_of, run_from}
use Rattle.dma_mem.specs.{declared.segment.Segment.Segment, Flags.flags_of, Marking.MarkList, declared.regions.Region.Region, Lent.marks_at}
use Rattle.dma_chan.specs.declared.turn.ChanTurn.TheVariants.{Moved, Waiting, Ended, Fault}
use Rattle.dma_chan.specs.Channel.{ChannelValue, ahead_of, code_of, loaded_on}
use Rattle.dma_chan.specs.Stepping.{Machine, after_step, after_steps, answer_at, machine}
use Rattle.dma_chan.specs.{LentRegions.segment_of, LentRegions.with_gaps_of, declared.turn.ChanTurn.ChanTurn, declared.turn.FaultKind.FaultKind}
use Rattle.dma_chan.specs.{declared.bursts.Burst.Burst, Bursts.span_of, Exec.destination_of, Exec.source_of}
use Rattle.dma_explain.specs.declared.explain.Cause.TheVariants.{NoEnd}
use Rattle.dma_trace.specs.Words.{cause_text, count_text, fault_text, front_text, line_feed, long_text, offset_text, refusal_text, span_text}
use Rattle.dma_trace.specs.{declared.words.Front.Front, declared.options.TraceOptions.TraceOptions, declared.wave.Moment.Moment, Columns.aligned}
use Rattle.dma_trace.specs.{Columns.insn_column, Front.front_of, Front.point_of, Wave.change_text, Wave.executing, Wave.first_text, Wave.last_text}

-- ---- memory

-- Returns the regions at these places, with the bytes that the memory image has there.
abbrev pub pieces_in : List Segment → List ℕ → List Piece
pieces_in places image = map (λ s. record { addr = s.addr; bytes = take s.len (drop s.addr image) }) places

-- Prints a burst with its first 16 bytes, as in `; loaded 0x00002000 + 32 bytes: 00 01 02`.
unfoldable pub burst_text : List ℕ → Burst → List Piece → List ℕ
burst_text verb b pieces =
    let bytes = take (min (span_of b) 16) (run_from pieces b.addr) in
    verb ++ span_text b ++ (codes ":" ++ spaced_bytes bytes ++ (if nat_lt 16 (span_of b) then codes " .." else []))

-- Prints what an instruction loads or stores, by the registers before it and the memory after it.
unfoldable pub moves_text : ChipInsn → Front → List Piece → List ℕ
moves_text Ld f pieces = burst_text (codes "; loaded ") (source_of f.registers) pieces
moves_text St f pieces = burst_text (codes "; stored ") (destination_of f.registers) pieces
moves_text StoreZeros f pieces = burst_text (codes "; stored ") (destination_of f.registers) pieces
moves_text i f pieces = []

-- ---- lines

-- Prints an instruction's number and offset, its text, and the registers after it, in columns.
unfoldable pub step_text : ℕ → ChipInsn → ℕ → Front → List ℕ
step_text n i pc after =
    (aligned 7 n ++ codes " " ++ offset_text pc) ++ (codes " " ++ insn_column i) ++ (codes "; " ++ front_text 3 after)

-- Prints the line of instruction number n: the same, and what the instruction loads or stores.
abbrev pub line_text : ℕ → ChipInsn → Front → Front → List Piece → List ℕ
line_text n i before after pieces = step_text n i before.registers.pc after ++ moves_text i before pieces ++ line_feed

-- Returns the registers of a machine's channel, and how many bytes its buffer holds.
abbrev pub front_in : Machine → Front
front_in s = front_of s.channel.registers (length s.channel.buffer)

-- Returns whether the line of instruction number n is printed.
abbrev pub is_shown : TraceOptions → ℕ → Bool
is_shown o n = nat_le o.from n && nat_lt (n - o.from) o.count

-- Prints the line of an instruction that was fetched, if the options ask for it.
unfoldable pub shown_line : TraceOptions → ℕ → Result ChipInsn FaultKind → Front → Front → List Piece → List ℕ
shown_line o n (Ok i) before after pieces = if is_shown o n then line_text n i before after pieces else []
shown_line o n (Err kind) before after pieces = []

-- Prints the line of a machine's next step, which has number n, with regions at these places.
abbrev pub step_line : TraceOptions → MarkList → List Segment → ℕ → Machine → List ℕ
step_line o marks places n s =
    let u = after_step marks s in
    shown_line o n (ahead_of s.channel) (front_in s) (front_in u) (pieces_in places u.image)

-- Prints the lines of the first n steps.
abbrev pub lines : TraceOptions → MarkList → List Segment → Machine → ℕ → List ℕ
lines o marks places s zero = []
lines o marks places s (suc n) = lines o marks places s n ++ step_line o marks places (suc n) (after_steps marks s n)

-- ---- the end

-- An end of a trace says whether the trace succeeds, what is printed after the lines, and what is wrong.
pub record End : Type 0 where
  pub succeeds : Bool
  pub says : List ℕ
  pub wrong : List ℕ

-- The trace fails at an instruction, after n others, which stored this number of bytes.
abbrev pub refused : List ℕ → Option ℕ → Result ChipInsn FaultKind → ℕ → Front → ℕ → End
refused why first next n f stored =
    record { succeeds = false; says = []; wrong = refusal_text why first next n f stored }

-- Returns the end by the answer of the last step, after n steps that moved and stored this number of bytes. The answer
-- is None at the limit of steps.
abbrev pub end_of : Option ChanTurn → Option ℕ → Result ChipInsn FaultKind → ℕ → Front → ℕ → End
end_of (Some Ended) first next n f stored =
    record { succeeds = true; says = codes "ended after " ++ count_text (n + 1) ++ line_feed; wrong = [] }
end_of (Some (Waiting e)) first next n f stored = record {
  succeeds = true;
  says = (codes "waits for event " ++ decimal e) ++ (codes " after " ++ count_text n) ++ line_feed;
  wrong = [];
}
end_of (Some (Fault kind)) first next n f stored = refused (fault_text kind first next f) first next n f stored
end_of (Some Moved) first next n f stored = refused (cause_text NoEnd first next n f) first next n f stored
end_of None first next n f stored = refused (cause_text NoEnd first next n f) first next n f stored

-- ---- the waveform

-- Returns a text if the options ask for a waveform, else nothing.
abbrev pub if_wave : TraceOptions → List ℕ → List ℕ
if_wave o text = if o.wave then text else []

-- Returns the moment at which a machine executes its next instruction, after n others.
abbrev pub moment_in : ℕ → Machine → Moment
moment_in n u = executing (point_of n u.channel)

-- Prints the changes after each of the first n steps.
abbrev pub changes : MarkList → Machine → ℕ → List ℕ
changes marks s zero = []
changes marks s (suc n) =
    changes marks s n
    ++ change_text (moment_in n (after_steps marks s n)) (moment_in (suc n) (after_steps marks s (suc n)))

-- Prints the waveform before the end: the values at the first instruction, and the changes after each of the first n
-- steps.
abbrev pub wave_lines : MarkList → Machine → ℕ → List ℕ
wave_lines marks s n = first_text (moment_in 0 s) ++ changes marks s n

-- Prints the waveform of a run that stops after n steps that moved, by the answer of the last step.
abbrev pub waveform : MarkList → Machine → ℕ → Option ChanTurn → List ℕ
waveform marks s n answer = wave_lines marks s n ++ last_text (moment_in n (after_steps marks s n)) answer

-- ---- the memory after the end

-- Prints the bytes of a row, or that no region has its first address.
abbrev pub row_bytes : List ℕ → List ℕ
row_bytes bytes = if length bytes == 0 then codes ": no RAM here" else spaced_bytes bytes

-- Prints row number k of a range: an address and at most 16 bytes, up to the first address that no region has.
unfoldable pub row_text : List Piece → Segment → ℕ → List ℕ
row_text pieces s k =
    let addr = (s.addr + 16 * k) % 2 ^ 32 in
    codes "0x" ++ hex_digits addr ++ (row_bytes (take (min (s.len - 16 * k) 16) (run_from pieces addr)) ++ line_feed)

-- Prints the rows of a range.
abbrev pub dump_text : List Piece → Segment → List ℕ
dump_text pieces s = flat_map (row_text pieces s) (range_with_len 0 ((s.len + 15) / 16))

-- ---- the whole

-- Returns the machine before the first step.
abbrev pub opening : TraceOptions → List ℕ → List ℕ → Machine
opening o program image = machine (loaded_on o.bus (record { bytes = program; cost = None })) image (flags_of o.events)

-- A run stops after n steps that moved: the next one doesn't move, or the limit is reached and no further step is
-- tried.
pub record StopsAfter (marks : MarkList) (s : Machine) (limit n : ℕ) : Type 0 where
  pub moved : (k : ℕ) → k < n → answer_at marks (after_steps marks s k) ≡ Moved
  pub few : n ≤ limit
  pub stops : n < limit → answer_at marks (after_steps marks s n) ≢ Moved

-- Returns the answer of the last step that was tried, or None at the limit.
abbrev pub last_answer : MarkList → Machine → ℕ → ℕ → Option ChanTurn
last_answer marks s limit n = if nat_lt n limit then Some (answer_at marks (after_steps marks s n)) else None

-- Returns the first byte of a channel's next instruction, if its program has one there.
abbrev pub first_byte_of : ChannelValue → Option ℕ
first_byte_of c = slice_get (code_of c) c.registers.pc

-- Returns the end of a trace after n steps that moved.
abbrev pub end_after : TraceOptions → MarkList → Machine → ℕ → End
end_after o marks s n =
    let u = after_steps marks s n in
    let c = u.channel in
    end_of (last_answer marks s o.limit n) (first_byte_of c) (ahead_of c) n (front_in u) c.stored

-- Returns how many steps are tried if n moved.
abbrev pub tried : ℕ → ℕ → ℕ
tried limit n = if nat_lt n limit then suc n else n

-- A trace of a machine over regions at these places succeeds or not, leaves this memory, prints these texts, and has
-- this waveform of the whole run.
pub record Traces (o : TraceOptions) (marks : MarkList) (places : List Segment) (s : Machine) (good : Bool)
    (after out err wave : List ℕ) : Type 0 where
  pub steps : ℕ
  pub run : StopsAfter marks s o.limit steps
  pub succeeds : good ≡ (end_after o marks s steps).succeeds
  pub memory : after ≡ (after_steps marks s (tried o.limit steps)).image
  pub to_out :
      out ≡ lines o marks places s steps ++ (end_after o marks s steps).says
      ++ flat_map (dump_text (pieces_in places after)) o.dumps.items
  pub to_err : err ≡ (end_after o marks s steps).wrong
  pub to_wave : wave ≡ if_wave o (waveform marks s steps (last_answer marks s o.limit steps))

-- Returns the marks at which bursts over regions fail: the gaps between them, and the ranges of the options.
abbrev pub marks_over : TraceOptions → List Region → MarkList
marks_over o regions = with_gaps_of regions (marks_at o.failing.items)

-- `trace` appends a line to `err` if a program is too long, else its trace over the regions, with the waveform in
-- `wave`. The regions stay where they are.
pub record Shows (o : TraceOptions) (program : List ℕ) (regions new : List Region) (good : Bool)
    (out err wave new_out new_err new_wave : List ℕ) : Type 0 where
  pub printed : List ℕ
  pub wrong : List ℕ
  pub waved : List ℕ
  pub to_out : new_out ≡ out ++ printed
  pub to_err : new_err ≡ err ++ wrong
  pub to_wave : new_wave ≡ wave ++ waved
  pub places : map segment_of new ≡ map segment_of regions
  pub traces :
      ((most_program_bytes < length program) × (good ≡ false) × (printed ≡ []) × (wrong ≡ long_text) × (waved ≡ [])
      × (image_of (pieces_of new) ≡ image_of (pieces_of regions)))
      ⊎ ((length program ≤ most_program_bytes)
      × Traces o (marks_over o regions) (map segment_of regions) (opening o program (image_of (pieces_of regions))) good
      (image_of (pieces_of new)) printed wrong waved)
