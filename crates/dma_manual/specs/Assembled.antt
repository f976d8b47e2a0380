-- The program to which a text assembles, or the first fault of the text, with its place (profile).
use Rattle.std.specs.Prelude.{◌≡◌, ℕ, ◌+◌, ◌-◌, Bool, true, false, ◌==◌, ◌&&◌, ◌||◌, if◌then◌else◌, List, [], ◌∷◌, ◌++◌, length, take, map, slice_index, nat_le}
use Rattle.std.specs.Prelude.{nat_lt, Option, Some, None, is_some, Result, Ok, Err, ok_or}
use Rattle.std.specs.{Int.w32, Int.to_le_bytes, List.list_any, Result.result_unwrap_or}
use Rattle.dma_text.specs.{Results.◌>>=◌, Lines.text_lines}
use Rattle.dma_insn.specs.declared.insn.Counter.TheVariants.{Lc0, Lc1}
use Rattle.dma_insn.specs.declared.chip.ChipInsn.TheVariants.{Lp, LpEnd, LoopAgain}
use Rattle.dma_insn.specs.{AssemblyText.most_program_bytes, declared.insn.Counter.Counter}
use Rattle.dma_manual.specs.Statements.{Label, label_of, label_view, statement_at}
use Rattle.dma_manual.specs.{Insns.spelling, Listing.is_end, Words.code_of, Words.next_of, Words.plain_byte, declared.assembler.Fault.Fault}
use Rattle.dma_manual.specs.{declared.assembler.Located.Located, declared.assembler.Place.Place, declared.assembler.Stop.Stop}
use Rattle.dma_manual.specs.{declared.assembler.Stop.TheVariants.NoMemory, declared.assembler.Stop.TheVariants.At, declared.draft.Draft.Draft}
use Rattle.dma_manual.specs.{declared.insns.ManualInsn.ManualInsn, declared.insns.ManualInsn.TheVariants.Chip, declared.insns.ManualInsn.TheVariants.Other}
use Rattle.dma_manual.specs.{declared.insns.OtherInsn.TheVariants.LpEndIf, declared.insns.OtherInsn.TheVariants.LoopAgainIf, declared.insns.Request.Request}
use Rattle.dma_manual.specs.{declared.loops.LoopKind.LoopKind, declared.loops.LoopKind.TheVariants.Counted, declared.loops.LoopKind.TheVariants.Endless}
use Rattle.dma_manual.specs.{declared.loops.Loops.Loops, declared.loops.Open.Open, declared.loops.Stray.Stray, declared.statements.Again.Again}
use Rattle.dma_manual.specs.{declared.statements.Again.TheVariants.Always, declared.statements.Again.TheVariants.If, declared.statements.Statement.Statement}
use Rattle.dma_manual.specs.declared.assembler.AsmCause.TheVariants as causes
use Rattle.dma_manual.specs.declared.statements.End.{End as LoopTo}
use Rattle.dma_manual.specs.declared.statements.End.TheVariants as ends
use Rattle.dma_manual.specs.declared.statements.Statement.TheVariants as says

-- What the lines so far say: the program's bytes, the labels, the loops that are open, whether an instruction is DMAEND
-- or a byte of a `DCB` or a `DCD` is 0, and the first DMALPEND that doesn't jump to the start of the open loop of its
-- kind.
pub record Read : Type 0 where
  pub code : List ℕ
  pub labels : List Label
  pub loops : Loops
  pub stops : Bool
  pub stray : Option Stray

abbrev pub draft_view : Draft → Read
draft_view d = record {
  code = d.code.items;
  labels = map label_view d.labels.items;
  loops = d.loops;
  stops = d.stops;
  stray = d.stray;
}

-- what an empty text says
abbrev pub empty : Read
empty = record {
  code = [];
  labels = [];
  loops = record { lc0 = None; lc1 = None; endless = None };
  stops = false;
  stray = None;
}

-- The place of a word of line n: the line has `width` bytes, the word `len`, and after the word are `after`.
abbrev pub place_at : ℕ → ℕ → ℕ → ℕ → Place
place_at n width len after = record { line = n; column = width - after - len + 1; len = len }

abbrev pub located : ℕ → ℕ → Fault → Located
located n width fault = record { place = place_at n width fault.len fault.after; cause = fault.cause }

-- the place of the next word of a line
abbrev pub place_of : ℕ → ℕ → Option (List ℕ × List ℕ) → Place
place_of n width None = place_at n width 0 0
place_of n width (Some w) = place_at n width (length w.0) (length w.1)

-- The program with more bytes. Fails with `TooLong` if they are more than 8,192 then.
abbrev pub with_bytes : List ℕ → List ℕ → Place → Result (List ℕ) Located
with_bytes code bytes place =
    if nat_le (length code + length bytes) most_program_bytes then Ok (code ++ bytes)
    else Err (record { place = place; cause = causes.TooLong })

-- the open loop of a kind
abbrev pub slot : Loops → LoopKind → Option Open
slot loops (Counted Lc0) = loops.lc0
slot loops (Counted Lc1) = loops.lc1
slot loops Endless = loops.endless

-- the open loops, with the loop of this kind replaced
abbrev pub with_loop : Loops → LoopKind → Option Open → Loops
with_loop loops (Counted Lc0) loop = record loops { lc0 = loop }
with_loop loops (Counted Lc1) loop = record loops { lc1 = loop }
with_loop loops Endless loop = record loops { endless = loop }

-- the first counter without an open loop
abbrev pub free_of : Option Open → Option Open → Option Counter
free_of None b = Some Lc0
free_of (Some a) None = Some Lc1
free_of (Some a) (Some b) = None

abbrev pub free_counter : Loops → Option Counter
free_counter loops = free_of loops.lc0 loops.lc1

-- the counter and the start of the open loop with a counter that begins last
abbrev pub innermost_of : Option Open → Option Open → Option (LoopKind × ℕ)
innermost_of None None = None
innermost_of (Some a) None = Some (Counted Lc0, a.start)
innermost_of None (Some b) = Some (Counted Lc1, b.start)
innermost_of (Some a) (Some b) = if nat_lt a.start b.start then Some (Counted Lc1, b.start) else Some (Counted Lc0, a.start)

-- The kind and the start of the open loop that begins last. A DMALPFE has no bytes, so a loop with the same start
-- begins before it.
abbrev pub or_endless : Option Open → Option (LoopKind × ℕ) → Option (LoopKind × ℕ)
or_endless None counted = counted
or_endless (Some e) None = Some (Endless, e.start)
or_endless (Some e) (Some counted) = if nat_lt e.start counted.1 then Some counted else Some (Endless, e.start)

abbrev pub innermost : Loops → Option (LoopKind × ℕ)
innermost loops = or_endless loops.endless (innermost_of loops.lc0 loops.lc1)

-- the counter of a DMALP, and its place if the counter has to be found
abbrev pub found_counter : Option Counter → Place → Result (Counter × Option Place) Located
found_counter None place = Err (record { place = place; cause = causes.NoCounter })
found_counter (Some counter) place = Ok (counter, Some place)

abbrev pub chosen : Loops → Option Counter → Place → Result (Counter × Option Place) Located
chosen loops (Some counter) place = Ok (counter, None)
chosen loops None place = found_counter (free_counter loops) place

-- the length of a jump to a loop's start, at most 255 bytes
abbrev pub back_to : ℕ → ℕ → Place → Result ℕ Located
back_to here start place =
    if nat_le start here && nat_le (here - start) 255 then Ok (here - start)
    else Err (record { place = place; cause = causes.Far })

-- the kind of loop that a DMALPEND at an offset ends, and the length of its jump
abbrev pub jump_of : Loops → ℕ → LoopTo → Place → Result (LoopKind × ℕ) Located
jump_of loops here ends.Innermost place = do
  l ← ok_or (innermost loops) (record { place = place; cause = causes.NoLoop })
  back ← back_to here l.1 place
  Ok (l.0, back)
jump_of loops here (ends.Of counter) place = do
  loop ← ok_or (slot loops (Counted counter)) (record { place = place; cause = causes.NoLoop })
  back ← back_to here loop.start place
  Ok (Counted counter, back)
jump_of loops here (ends.To counter start) place = do
  back ← back_to here start place
  Ok (Counted counter, back)
jump_of loops here (ends.Back counter back) place = Ok (Counted counter, back)

-- the kind of request that the DMALPEND of a DMALPFE is for
abbrev pub condition_of : Again → Option Request
condition_of (Always counter) = None
condition_of (If request) = Some request

-- the DMALPEND of a DMALPFE with this jump
abbrev pub again_of : Again → ℕ → ManualInsn
again_of (Always counter) back = Chip (LoopAgain counter back)
again_of (If request) back = Other (LoopAgainIf request back)

-- the DMALPEND that ends a loop of a kind, which may be for a kind of request
abbrev pub end_of : LoopKind → Option Request → ℕ → ManualInsn
end_of (Counted counter) None back = Chip (LpEnd counter back)
end_of (Counted counter) (Some request) back = Other (LpEndIf request counter back)
end_of Endless None back = again_of (Always Lc1) back
end_of Endless (Some request) back = again_of (If request) back

-- What the lines say if a DMALP follows them: its loop is open.
abbrev pub begun : Read → Option Counter → ℕ → Place → Result Read Located
begun r counter times place = do
  c ← chosen r.loops counter place
  code ← with_bytes r.code (spelling (Chip (Lp c.0 times))) place
  Ok (record r { code = code; loops = with_loop r.loops (Counted c.0) (Some (record { start = length code; unnamed = c.1 })) })

-- What the lines say if a DMALPFE follows them: its loop is open. Fails with `Nested` within another such loop.
abbrev pub begun_endless : Read → Place → Result Read Located
begun_endless r place =
    if is_some r.loops.endless then Err (record { place = place; cause = causes.Nested })
    else Ok (record r { loops = record r.loops { endless = Some (record { start = length r.code; unnamed = Some place }) } })

-- whether a jump of this many bytes back from an offset leads to the start of an open loop
abbrev pub is_closed_by : Option Open → ℕ → ℕ → Bool
is_closed_by None here back = false
is_closed_by (Some loop) here back = nat_le back here && (here - back) == loop.start

-- The first DMALPEND that closes no loop: an earlier one, else this one, unless it closes its loop.
abbrev pub first_stray : Option Stray → Bool → Stray → Option Stray
first_stray (Some first) closes this = Some first
first_stray None true this = None
first_stray None false this = Some this

-- What the lines say if a DMALPEND follows them: it ends the open loop of its kind.
abbrev pub ended : Read → Option Request → LoopTo → Place → Result Read Located
ended r condition end place = do
  jump ← jump_of r.loops (length r.code) end place
  code ← with_bytes r.code (spelling (end_of jump.0 condition jump.1)) place
  Ok (record r {
    code = code;
    loops = with_loop r.loops jump.0 None;
    stray = first_stray r.stray (is_closed_by (slot r.loops jump.0) (length r.code) jump.1)
        (record { place = place; kind = jump.0; condition = condition });
  })

-- whether a jump of this many bytes back from an offset leads to the start of the open loop, if there is one
abbrev pub is_free_or_closed : Option Open → ℕ → ℕ → Bool
is_free_or_closed None here back = true
is_free_or_closed (Some loop) here back = is_closed_by (Some loop) here back

-- What the lines say if the DMALPEND of a DMALPFE with this jump follows them: it ends such a loop, if one is open.
abbrev pub ended_again : Read → Again → ℕ → Place → Result Read Located
ended_again r again back place = do
  code ← with_bytes r.code (spelling (again_of again back)) place
  Ok (record r {
    code = code;
    loops = with_loop r.loops Endless None;
    stray = first_stray r.stray (is_free_or_closed r.loops.endless (length r.code) back)
        (record { place = place; kind = Endless; condition = condition_of again });
  })

-- the bytes of the number of a `DCD`, the lowest first
abbrev pub word_bytes : ℕ → List ℕ
word_bytes v = to_le_bytes w32 v

-- whether one of these bytes is DMAEND's
abbrev pub has_zero : List ℕ → Bool
has_zero bytes = list_any (λ b. b == 0) bytes

-- What the lines say if more bytes follow them; `stops` is whether these have DMAEND.
abbrev pub with_code : Read → List ℕ → Bool → Place → Result Read Located
with_code r bytes stops place = do
  code ← with_bytes r.code bytes place
  Ok (record r { code = code; stops = r.stops || stops })

-- what the lines say if a statement follows them
abbrev pub after_statement : Read → Statement → Place → Result Read Located
after_statement r says.Nothing place = Ok r
after_statement r (says.Plain i) place = with_code r (spelling i) (is_end i) place
after_statement r (says.Byte b) place = with_code r (b ∷ []) (b == 0) place
after_statement r (says.Word v) place = with_code r (word_bytes v) (has_zero (word_bytes v)) place
after_statement r (says.Loop counter times) place = begun r counter times place
after_statement r (says.LoopEnd condition end) place = ended r condition end place
after_statement r says.Endless place = begun_endless r place
after_statement r (says.LoopAgain again back) place = ended_again r again back place

-- the result, with the place in line n added to its fault
abbrev pub placed : {A : Type 0} → ℕ → ℕ → Result A Fault → Result A Located
placed n width (Ok x) = Ok x
placed n width (Err fault) = Err (located n width fault)

-- what the lines say if the words after the label of line n follow them
unfoldable pub with_statement : Read → ℕ → ℕ → List ℕ → Result Read Located
with_statement r n width rest = do
  s ← placed n width (statement_at r.labels rest)
  after_statement r s (place_of n width (next_of rest))

-- the label at the front of a line, which a colon ends, and what follows it
abbrev pub label_by : Option (List ℕ × List ℕ) → Option (List ℕ × List ℕ)
label_by None = None
label_by (Some w) = if slice_index w.0 (length w.0 - 1) == 58 then Some (take (length w.0 - 1) w.0, w.1) else None

abbrev pub label_in : List ℕ → Option (List ℕ × List ℕ)
label_in line = label_by (next_of line)

-- What the lines say if a label follows them. Fails with `Twice` if one of them has the same label.
abbrev pub with_label : Read → ℕ → ℕ → List ℕ → List ℕ → Result Read Located
with_label r n width name rest =
    if is_some (label_of r.labels name)
    then Err (record { place = place_at n width (length name + 1) (length rest); cause = causes.Twice })
    else Ok (record r { labels = r.labels ++ (name, length r.code) ∷ [] })

-- what the lines say if line n follows them, given the label at its front
abbrev pub taken : Read → ℕ → List ℕ → Option (List ℕ × List ℕ) → Result Read Located
taken r n line None = with_statement r n (length line) line
taken r n line (Some w) = do
  labelled ← with_label r n (length line) w.0 w.1
  with_statement labelled n (length line) w.1

abbrev pub take_line : Read → ℕ → List ℕ → Result Read Located
take_line r n line = taken r n line (label_in line)

-- what the lines say if more lines follow; the first of these is line n + 1
unfoldable pub take_lines : Read → ℕ → List (List ℕ) → Result Read Located
take_lines r n [] = Ok r
take_lines r n (line ∷ lines) = do
  next ← take_line r (n + 1) (map plain_byte (code_of line))
  take_lines next (n + 1) lines

-- succeeds if each loop of DMALPFE, or whose counter was found, is ended
abbrev pub ended_by : Option Place → Result (Unit {0}) Located
ended_by None = Ok tt
ended_by (Some place) = Err (record { place = place; cause = causes.Open })

abbrev pub ended_loop : Option Open → Result (Unit {0}) Located
ended_loop None = Ok tt
ended_loop (Some loop) = ended_by loop.unnamed

abbrev pub unclosed : Loops → Result (Unit {0}) Located
unclosed loops = do
  first ← ended_loop loops.lc0
  second ← ended_loop loops.lc1
  ended_loop loops.endless

-- what a text says, or the place and the cause of its first fault
abbrev pub read_text : List ℕ → Result Read Located
read_text text = do
  r ← take_lines empty 0 (text_lines text)
  done ← unclosed r.loops
  Ok r

-- the program of a text, or the place and the cause of its first fault
abbrev pub assembled : List ℕ → Result (List ℕ) Located
assembled text = do
  r ← read_text text
  Ok r.code

-- the program that a text describes; no bytes for a text with a fault
abbrev pub program_of : List ℕ → List ℕ
program_of text = result_unwrap_or (assembled text) []

-- What a function returned, with `view` applied to a value, is `read`, unless memory ran out.
abbrev pub ResultOr : {X Y : Type 0} → (X → Y) → Result X Stop → Result Y Located → Type 0
ResultOr view (Ok x) read = read ≡ Ok (view x)
ResultOr view (Err (At fault)) read = read ≡ Err fault
ResultOr view (Err NoMemory) read = Unit {0}
