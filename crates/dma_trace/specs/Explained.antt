-- What `explain` prints (profile).
use Rattle.std.specs.Prelude.{◌≡◌, ℕ, ◌-◌, ◌==◌, ◌++◌, ◌<◌, ◌⊎◌, ◌&&◌, Bool, not, true, false, List, [], length, flat_map, slice_get, Option, None, if◌then◌else◌, codes, decimal}
use Rattle.dma_mem.specs.declared.segment.Segment.{Segment}
use Rattle.dma_insn.specs.AssemblyText.{most_program_bytes}
use Rattle.dma_chan.specs.declared.exec.Registers.{Registers}
use Rattle.dma_explain.specs.{Explains.bursts_in, Explains.next_in, Explains.traced, Late.late_in}
use Rattle.dma_explain.specs.Known.{FindsFrom, MayBegin, RefusesFrom}
use Rattle.dma_explain.specs.{declared.explain.known.Given.Given, declared.explain.known.Known.Known}
use Rattle.dma_text.specs.Digits.{hex_digits}
use Rattle.dma_explain.specs.{declared.explain.Amounts.Amounts, declared.explain.BurstCounts.BurstCounts, declared.explain.Explained.Explained}
use Rattle.dma_explain.specs.{declared.explain.Happening.Happening, declared.explain.Repeated.Repeated, declared.explain.EventSync.EventSync}
use Rattle.dma_explain.specs.declared.explain.EventSync.TheVariants.{Waits, Signals}
use Rattle.dma_explain.specs.{declared.explain.Unexplained.Unexplained}
use Rattle.dma_trace.specs.Words.{bytes_text, cause_text, count_text, line_feed, long_text, range_text, refusal_text}
use Rattle.dma_trace.specs.{Front.front_at, Touches.conflict_text, Touches.touches_in, Warnings.all_warned, Warnings.warnings_of}

-- `  from 0x00002000 + 32 bytes, 64 times`
abbrev pub source_line : Repeated → List ℕ
source_line r = codes "  from " ++ range_text r.addr r.len r.times ++ line_feed

-- `  to 0x00004000 + 2048 bytes` or `  zeros 0x00004000 + 2048 bytes`: these words, and the range
abbrev pub segment_line : List ℕ → Segment → List ℕ
segment_line words s = words ++ range_text s.addr s.len 1 ++ line_feed

abbrev pub sync_text : EventSync → List ℕ
sync_text (Waits e) = codes "waits for event " ++ decimal e
sync_text (Signals e) = codes "signals event " ++ decimal e

-- how many bytes are copied and set to 0: `2048 bytes`, `2048 bytes and 512 bytes of zeros`
abbrev pub amounts_text : Amounts → List ℕ
amounts_text a =
    if a.cleared == 0 then bytes_text a.copied
    else bytes_text a.copied ++ (codes " and " ++ bytes_text a.cleared ++ codes " of zeros")

-- `  after 2048 bytes: signals event 3`
abbrev pub event_line : Happening → List ℕ
event_line h = codes "  after " ++ amounts_text h.done ++ (codes ": " ++ sync_text h.sync ++ line_feed)

-- `  bursts: loads 9, stores 9`
abbrev pub bursts_text : BurstCounts → List ℕ
bursts_text b = codes "  bursts: loads " ++ decimal b.loads ++ (codes ", stores " ++ decimal b.stores ++ line_feed)

-- an address register or CCR, or a loop counter, with which a program begins, if it is known: ` DAR 0x80003004`
abbrev pub known_text : Bool → List ℕ → ℕ → List ℕ
known_text known words value = if known then words ++ hex_digits value else []

abbrev pub counter_text : Bool → List ℕ → ℕ → List ℕ
counter_text known words value = if known then words ++ decimal value else []

-- whether no register is known
abbrev pub none_known : Known → Bool
none_known k = not k.sar && not k.dar && not k.ccr && not k.lc0 && not k.lc1

-- the registers from which a program is explained: `, for any registers`, or the known ones, as ` from DAR 0x80003004`
abbrev pub given_text : Given → List ℕ
given_text g =
    let r = g.registers in
    let k = g.known in
    if none_known k then codes ", for any registers"
    else codes ", from" ++ (known_text k.sar (codes " SAR 0x") r.sar ++ known_text k.dar (codes " DAR 0x") r.dar
    ++ known_text k.ccr (codes " CCR 0x") r.ccr)
    ++ (counter_text k.lc0 (codes " LC0 ") r.lc0 ++ counter_text k.lc1 (codes " LC1 ") r.lc1)

-- what a program copies: how much, from which registers, by which bursts, from where and to where; what it sets to 0;
-- and its events
abbrev pub explained_text : Given → Explained → List ℕ
explained_text g x =
    ((codes "copies " ++ bytes_text x.size.copied
    ++ (codes ", with " ++ count_text x.steps ++ given_text g ++ line_feed))
    ++ bursts_text x.bursts)
    ++ (flat_map source_line x.src.items ++ flat_map (segment_line (codes "  to ")) x.dst.items
    ++ flat_map (segment_line (codes "  zeros ")) x.zeros.items)
    ++ flat_map event_line x.events.items

-- Why nothing explains a program, where, the registers there, and how many bytes were stored before. The registers are
-- those of a run from the given ones, in which those that aren't known are 0.
abbrev pub unexplained_text : Registers → List ℕ → Unexplained → List ℕ
unexplained_text start program u =
    let x = traced start program u.steps in
    let first = slice_get program x.registers.pc in
    let next = next_in program x in
    let touches = touches_in start program u.addr u.steps in
    let why = cause_text u.cause first next u.steps (front_at x) ++ conflict_text u.cause u.addr touches in
    refusal_text why first next u.steps (front_at x) u.stored

-- `explain` prints what it finds of a program from given registers with a limit of instructions, and the counts of its
-- bursts.
pub record PrintsCopy (given : Given) (program : List ℕ) (most : ℕ) (printed : List ℕ) : Type 0 where
  pub explained : Explained
  pub finds : FindsFrom given program most explained
  pub bursts : (start : Registers) → MayBegin given start →
      explained.bursts ≡ bursts_in start program (explained.steps - 1)
  pub text : printed ≡ explained_text given explained

-- It prints why and where nothing explains a program.
pub record PrintsCause (given : Given) (program : List ℕ) (most : ℕ) (printed : List ℕ) : Type 0 where
  pub unexplained : Unexplained
  pub refuses : RefusesFrom given program most unexplained
  pub text : printed ≡ unexplained_text given.registers program unexplained

-- What `explain` prints if it succeeds or fails: what it finds, or that the program is too long, or else a cause.
abbrev pub Prints : Given → List ℕ → ℕ → Bool → List ℕ → Type 0
Prints given program most true printed = PrintsCopy given program most printed
Prints given program most false printed =
    ((most_program_bytes < length program) × (printed ≡ long_text)) ⊎ PrintsCause given program most printed

-- The offset of the first instruction of an explained program that moves the destination while bytes are in the buffer.
abbrev pub IsLate : Given → List ℕ → ℕ → Bool → Option ℕ → Type 0
IsLate given program most false late = late ≡ None
IsLate given program most true late =
    (x : Explained) × FindsFrom given program most x
    × ((start : Registers) → MayBegin given start → late ≡ late_in start program (x.steps - 1))

-- What is printed is appended to `out` if the program is explained, else to `err`. Then the warnings about the program
-- are appended to `err`.
pub record Appends (given : Given) (program : List ℕ) (most : ℕ) (copies : Bool)
    (out err new_out new_err : List ℕ) : Type 0 where
  pub printed : List ℕ
  pub prints : Prints given program most copies printed
  pub late : Option ℕ
  pub is_late : IsLate given program most copies late
  pub to_out : new_out ≡ out ++ (if copies then printed else [])
  pub to_err : new_err ≡ err ++ (if copies then [] else printed) ++ all_warned copies (warnings_of program) late
