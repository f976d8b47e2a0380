-- Flags as the bits of a number.
use Rattle.std.proofs.Common.{◌≡◌, ◌≢◌, ℕ, ◌*◌, ◌%◌, ◌^◌, ◌<◌, Bool, true, false, length, get_or, set, inl, inr, refl, ap, sym, ◌∙◌, arith, bit_or, bit_and}
use Rattle.std.proofs.Common.{w32, get_or-set_same, get_or-set_other}
use Rattle.std.specs.{Prelude.nat_eq, Int.bit_at, Int.bit_not}
use Rattle.std.proofs.lemmas.List.FromFn.{length-map-range_with_len, get_or-map-range_with_len}
use Rattle.std.proofs.lemmas.Nat.Bits.{bit_at_set_same, bit_at_set_other, bit_at_clear_same, bit_at_clear_other}
use Rattle.std.proofs.{lemmas.Bool.cases_eq, lemmas.List.ext_get_or, Math.ListN.length-set}
use Rattle.dma_mem.specs.Flags.{all_clear, flags_of}

pub length_flags_of : (n : ℕ) → length (flags_of n) ≡ 32
unfolding flags_of
length_flags_of n = length-map-range_with_len (λ x. nat_eq (bit_at n x) 1) 0 32

pub get_or_flags_of : (n e : ℕ) → e < 32 → get_or (flags_of n) e false ≡ nat_eq (bit_at n e) 1
unfolding flags_of
get_or_flags_of n e h = get_or-map-range_with_len (λ x. nat_eq (bit_at n x) 1) 0 32 e e false h (omega arith)

pub flags_of_zero : flags_of 0 ≡ all_clear
unfolding flags_of all_clear
flags_of_zero = refl

-- numbers whose bits are the same but for one, which this flag says
changed : (n m k : ℕ) (b : Bool) → k < 32 → nat_eq (bit_at m k) 1 ≡ b → ((i : ℕ) → i < 32 → i ≢ k → bit_at m i ≡ bit_at n i) → flags_of m ≡ set (flags_of n) k b
changed n m k b h here others =
    ext_get_or false _ _ (length_flags_of m ∙ sym (length-set (flags_of n) k b ∙ length_flags_of n)) (λ i l.
    let below : i < 32 = omega (arith, length_flags_of m) in
    let long : k < length (flags_of n) = omega (arith, length_flags_of n) in
    elim (cases_eq i k) [
      | inl e ↦ get_or_flags_of m i below ∙ ap (λ j. nat_eq (bit_at m j) 1) e ∙ here
          ∙ sym (ap (λ j. get_or (set (flags_of n) k b) j false) e ∙ get_or-set_same (flags_of n) k b false long)
      | inr ne ↦ get_or_flags_of m i below ∙ ap (λ x. nat_eq x 1) (others i below ne)
          ∙ sym (get_or-set_other (flags_of n) k i b false ne ∙ get_or_flags_of n i below)
    ])

pub flags_of_set : (n k : ℕ) → k < 32 → flags_of (bit_or n (1 * 2 ^ k % 2 ^ 32)) ≡ set (flags_of n) k true
flags_of_set n k h =
    changed n _ k true h (ap (λ x. nat_eq x 1) (bit_at_set_same w32 n k h)) (λ i below ne. bit_at_set_other w32 n k h i ne)

pub flags_of_clear : (n k : ℕ) → k < 32 → flags_of (bit_and n (bit_not w32 (1 * 2 ^ k % 2 ^ 32))) ≡ set (flags_of n) k false
flags_of_clear n k h =
    changed n _ k false h (ap (λ x. nat_eq x 1) (bit_at_clear_same w32 n k h)) (λ i below ne. bit_at_clear_other w32 n k h i below ne)
