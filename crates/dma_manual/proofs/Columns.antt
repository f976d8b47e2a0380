-- No text of an instruction passes the column of the comments.
use Rattle.std.proofs.Common.{◌≡◌, ℕ, ◌+◌, ◌*◌, ◌<◌, ◌≤◌, Bool, true, List, [], ◌∷◌, ◌++◌, length, refl, Option, Result, Ok, Err}
use Rattle.std.proofs.Common.{nat_le, arith, codes, decimal, length-append}
use Rattle.std.specs.Fmt.{digits}
use Rattle.std.proofs.{lemmas.Bool.leb-true, lemmas.List.length-drop}
use Rattle.dma_insn.specs.ControlWord.{HasEndRanges, beat_bytes, control_of}
use Rattle.dma_insn.specs.{declared.control.BurstEnd.BurstEnd}
use Rattle.dma_insn.specs.{declared.control.Control.Control, declared.control.ControlFault.ControlFault, declared.insn.Counter.Counter}
use Rattle.dma_insn.specs.{declared.chip.ChipInsn.ChipInsn}
use Rattle.dma_insn.proofs.ControlLaws.{control_of_fields}
use Rattle.dma_manual.specs.ManualText.{cache_signals, control_text_of, counter_name, end_name, end_text, field_text, flag_text, increment_name, letter}
use Rattle.dma_manual.specs.ManualText.{manual_text, other_text}
use Rattle.dma_manual.specs.{declared.insns.ManualInsn.ManualInsn}
use Rattle.dma_manual.specs.{declared.insns.OtherInsn.OtherInsn, declared.insns.Request.Request}
use Rattle.dma_manual.specs.{declared.listing.Jump.Jump, declared.manual.Side.Side}
use Rattle.dma_manual.specs.{declared.manual.Side.TheVariants.Source, declared.manual.Side.TheVariants.Destination, Insns.HasOtherRanges, Insns.HasRanges}
use Rattle.dma_manual.specs.{Listing.label_name, Listing.statement_text, Laws.CommentsStandInColumns}
use Rattle.dma_text.specs.Digits.{hex_digits}
use Rattle.dma_manual.proofs.{Numerals.each, Numerals.each_at, ControlTexts.ranges_of, ControlTexts.signals_le, ControlTexts.size_le}
use Rattle.dma_insn.specs.Chip.{HasRanges as HasChipRanges}

-- the digits of a number
few : (m k : ℕ) → each m (λ n. nat_le (length (decimal n)) k) ≡ each m (λ n. true) → (n : ℕ) → n < m → length (decimal n) ≤ k
few m k e n small = leb-true (length (decimal n)) k (each_at (λ n. nat_le (length (decimal n)) k) (λ n. true) m n e small)

three : (n : ℕ) → n ≤ 256 → length (decimal n) ≤ 3
unfolding digits
three n small = few 257 3 refl n (omega arith)

two : (n : ℕ) → n < 100 → length (decimal n) ≤ 2
unfolding digits
two = few 100 2 refl

one : (n : ℕ) → n < 10 → length (decimal n) ≤ 1
unfolding digits
one = few 10 1 refl

-- the fields of a control word
field_le : (side : Side) (name : ℕ) (value : List ℕ) → length (field_text (letter side) (name ∷ []) value) ≡ 3 + length value
field_le side name value = grind (arith)

flag_le : (side : Side) (name n : ℕ) → length (flag_text (letter side) (name ∷ []) n) ≤ 3 + length (decimal n)
flag_le side name n = grind (arith, field_le)

increments_le : (side : Side) (i : Bool) → length (codes " " ++ letter side ++ increment_name i) ≡ 4
increments_le side i = grind (arith)

end_le : (side : Side) (e : BurstEnd) → HasEndRanges e → length (end_text side e) ≤ 22 + length (decimal (cache_signals side e.cache))
end_le side e h =
    let n = cache_signals side e.cache in
    let b = field_text (letter side) (codes "B") (decimal e.beats) in
    let s = field_text (letter side) (codes "S") (decimal (8 * beat_bytes e.size)) in
    let a = codes " " ++ letter side ++ increment_name e.increments in
    let p = flag_text (letter side) (codes "P") e.protection in
    let c = flag_text (letter side) (codes "C") n in
    let beats = h.beats in
    let protection = h.protection in
    omega (
      arith,
      length-append (((b ++ s) ++ a) ++ p) c,
      length-append ((b ++ s) ++ a) p,
      length-append (b ++ s) a,
      length-append b s,
      field_le side 66 (decimal e.beats),
      field_le side 83 (decimal (8 * beat_bytes e.size)),
      increments_le side e.increments,
      flag_le side 80 e.protection,
      flag_le side 67 n,
      two e.beats (omega arith),
      three (8 * beat_bytes e.size) (size_le e.size),
      one e.protection (omega arith),
    )

control_by : (v : ℕ) (r : Result Control ControlFault) → control_of v ≡ r → length (control_text_of v r) ≤ 47
control_by v (Err fault) is = omega arith
control_by v (Ok c) is =
    let ranges = ranges_of v c (control_of_fields v c is) in
    let source = ranges.0.cache in
    let destination = signals_le Destination c.dst.cache ranges.1.cache in
    omega (
      arith,
      length-append (end_text Source c.src) (end_text Destination c.dst),
      end_le Source c.src ranges.0,
      end_le Destination c.dst ranges.1,
      one c.src.cache (omega arith),
      two (cache_signals Destination c.dst.cache) (omega arith),
    )

-- the text of an instruction
chip_le : (i : ChipInsn) → HasChipRanges i → length (manual_text i) ≤ 58
chip_le i h = grind (arith, three, length-append, control_by)

peripheral_le : (p : ℕ) (flag : List ℕ) → p < 32 → length flag ≤ 8 → length (decimal p ++ flag) ≤ 10
peripheral_le p flag small few = let most : length (decimal p) ≤ 2 = two p (omega arith) in omega (arith, most, length-append (decimal p) flag)

go_le : (c a : ℕ) (flag : List ℕ) → c < 8 → length flag ≤ 4 → length ((decimal c ++ codes ", 0x") ++ (hex_digits a ++ flag)) ≤ 17
go_le c a flag small few =
    omega (
      arith,
      one c (omega arith),
      length-append (decimal c ++ codes ", 0x") (hex_digits a ++ flag),
      length-append (decimal c) (codes ", 0x"),
      length-append (hex_digits a)
          flag,
    )

back_le : (b : ℕ) → b < 256 → length (decimal b) ≤ 3
back_le b small = three b (omega arith)

other_le : (i : OtherInsn) → HasOtherRanges i → length (other_text i) ≤ 58
other_le i h = grind (arith, peripheral_le, back_le, go_le)

jump_le : (condition : Option Request) (c : Counter) (o : ℕ) → length (end_name condition ++ codes " " ++ counter_name c ++ (codes ", " ++ label_name o)) ≤ 58
jump_le condition c o = grind (arith)

statement_le : (jump : Option Jump) (i : ManualInsn) → HasRanges i → length (statement_text jump i) ≤ 58
statement_le jump i h = grind (arith, jump_le, chip_le, other_le)

pub comments_stand_in_columns : CommentsStandInColumns
comments_stand_in_columns labels o i h = grind (arith, statement_le, length-append, length-drop)
