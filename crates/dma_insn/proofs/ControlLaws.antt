-- Control words against their fields, both ways.
use Rattle.std.proofs.Common.{◌≡◌, ℕ, ◌+◌, ◌^◌, ◌<◌, ◌≤◌, Bool, refl, sym, Option, Some, Result, Ok, Err, arith, cond, eqb}
use Rattle.std.proofs.lemmas.Bool.{eqb-true}
use Rattle.std.specs.{Option.option_map, Prelude.IfOk}
use Rattle.dma_insn.specs.declared.control.ControlFault.TheVariants.{Swap, Bit31}
use Rattle.dma_insn.specs.ControlWord.{field, flag, size_code, size_of, end_with, end_at, end_bits, with_ends, control_of, bits_of, HasEndRanges, HasFields}
use Rattle.dma_insn.specs.{declared.control.BeatSize.BeatSize, declared.control.BurstEnd.BurstEnd, declared.control.Control.Control}
use Rattle.dma_insn.specs.{declared.control.ControlFault.ControlFault}

pub size_of_size_code : (s : BeatSize) → size_of (size_code s) ≡ Some s
size_of_size_code s = grind (arith)

pub size_code_le : (s : BeatSize) → size_code s ≤ 4
size_code_le s = grind (arith)

-- one test of the chain of size codes
by_code : (n c : ℕ) (s t : BeatSize) (rest : Option BeatSize) (b : Bool) → eqb n c ≡ b → size_code t ≡ c → (rest ≡ Some s → size_code s ≡ n)
    → cond b (Some t) rest ≡ Some s → size_code s ≡ n
by_code n c s t rest b h h2 h3 h4 = grind (arith, eqb-true)

pub size_code_size_of : (n : ℕ) (s : BeatSize) → size_of n ≡ Some s → size_code s ≡ n
size_code_size_of n s e = grind (arith, by_code)

-- The fields of the end whose lowest bit is bit k.
pub record IsEnd (k w : ℕ) (e : BurstEnd) : Type 0 where
  pub increments : flag e.increments ≡ field k 1 w
  pub size : size_code e.size ≡ field (k + 1) 3 w
  pub beats : e.beats ≡ field (k + 4) 4 w + 1
  pub protection : e.protection ≡ field (k + 8) 3 w
  pub cache : e.cache ≡ field (k + 11) 3 w

bit_flag : (n : ℕ) → n < 2 → flag (eqb n 1) ≡ n
bit_flag n h = grind (arith)

flag_bit : (b : Bool) (n : ℕ) → flag b ≡ n → eqb n 1 ≡ b
flag_bit b n h = grind (arith)

flag_le : (b : Bool) → flag b ≤ 1
flag_le b = grind (arith)

end_fields : (k w : ℕ) (o : Option BeatSize) (e : BurstEnd) → size_of (field (k + 1) 3 w) ≡ o → option_map (end_with k w) o ≡ Some e → IsEnd k w e
end_fields k w o e h h2 = grind (arith, bit_flag, size_code_size_of)

end_at_fields : (k w : ℕ) (e : BurstEnd) → end_at k w ≡ Some e → IsEnd k w e
unfolding end_at
end_at_fields k w e h = end_fields k w (size_of (field (k + 1) 3 w)) e refl h

end_again : (k w : ℕ) (e : BurstEnd) → IsEnd k w e → end_at k w ≡ Some e
unfolding end_at
end_again k w e h = grind (arith, size_of_size_code, flag_bit)

ok_tests : (w : ℕ) (s d : BurstEnd) (c : Control) (t u : Bool) → eqb (field 28 3 w) 0 ≡ t → eqb (field 31 1 w) 0 ≡ u
    → cond t (cond u (Ok (record { src = s; dst = d })) (Err Bit31)) (Err Swap) ≡ Ok c
    → (Some s ≡ Some c.src) × (Some d ≡ Some c.dst) × (field 28 3 w ≡ 0) × (field 31 1 w ≡ 0)
ok_tests w s d c t u h h2 h3 = grind (arith, eqb-true)

-- A word that is not refused has these fields.
ok_ends : (w : ℕ) (a b : Option BurstEnd) (c : Control) → with_ends w a b ≡ Ok c → (a ≡ Some c.src) × (b ≡ Some c.dst) × (field 28 3 w ≡ 0) × (field 31 1 w ≡ 0)
ok_ends w a b c h = grind (arith, ok_tests)

pub control_of_fields : (w : ℕ) (c : Control) → control_of w ≡ Ok c → HasFields w c
unfolding control_of
control_of_fields w c h =
    let ends = ok_ends w (end_at 0 w) (end_at 14 w) c h in
    let src = end_at_fields 0 w c.src ends.0 in
    let dst = end_at_fields 14 w c.dst ends.1 in
    record {
      src_increments = src.increments;
      src_size = src.size;
      src_beats = src.beats;
      src_protection = src.protection;
      src_cache = src.cache;
      dst_increments = dst.increments;
      dst_size = dst.size;
      dst_beats = dst.beats;
      dst_protection = dst.protection;
      dst_cache = dst.cache;
      swap = ends.2;
      bit31 = ends.3;
    }

-- A word with these fields is not refused.
pub control_of_again : (w : ℕ) (c : Control) → HasFields w c → control_of w ≡ Ok c
unfolding control_of
control_of_again w c h = grind (arith, end_again)

-- The fields give the word back.
pub bits_of_fields : (w : ℕ) (c : Control) → w < 2 ^ 32 → HasFields w c → bits_of c ≡ w
unfolding bits_of end_bits
bits_of_fields w c small h = grind arith

-- The word of some fields has them.
pub fields_of_bits : (c : Control) → HasEndRanges c.src → HasEndRanges c.dst → HasFields (bits_of c) c
unfolding bits_of end_bits
fields_of_bits c s d = grind (arith, flag_le, size_code_le)

pub if_fields : (w : ℕ) (r : Result Control ControlFault) → r ≡ control_of w → IfOk r (λ c. HasFields w c)
if_fields w r h = grind (arith, control_of_fields)

pub if_back : (w : ℕ) (r : Result Control ControlFault) → w < 2 ^ 32 → r ≡ control_of w → IfOk r (λ c. bits_of c ≡ w)
if_back w (Ok c) small e = bits_of_fields w c small (control_of_fields w c (sym e))
if_back w (Err fault) small e = tt
