-- The number whose bits are flags.
use Rattle.std.proofs.Common.{◌≡◌, ◌∙◌, ℕ, zero, suc, ◌+◌, ◌*◌, ◌^◌, ◌<◌, Bool, true, false, List, [], ◌∷◌, get_or, length, ap, subst, arith}
use Rattle.std.specs.Prelude.{◌↔◌, nat_eq}
use Rattle.std.specs.Int.{bit_at}
use Rattle.std.proofs.lemmas.Nat.Bits.{bit_at-lt, bit_at-suc, bit_at_lowest, same_from_bits_below}
use Rattle.dma_insn.specs.ControlWord.{flag}
use Rattle.dma_mem.specs.Flags.{flags_of}
use Rattle.dma_mem.proofs.FlagBits.{get_or_flags_of, length_flags_of}
use Rattle.dma_device.specs.Turns.{number_of}

pub flag_is : (b : Bool) → (flag b ≡ 1) ↔ (b ≡ true)
flag_is b = grind (arith)

pub flag_few : (b : Bool) → flag b < 2
flag_few b = grind (arith)

number_below : (fs : List Bool) → number_of fs < 2 ^ length fs
number_below [] = omega arith
number_below (f ∷ fs) = let more : flag f + 2 * number_of fs < 2 ^ suc (length fs) = omega (arith, flag_few f, number_below fs) in more

pub number_bit : (fs : List Bool) (i : ℕ) → i < length fs → bit_at (number_of fs) i ≡ flag (get_or fs i false)
number_bit [] i h = absurd (omega arith)
number_bit (f ∷ fs) zero h = bit_at_lowest (flag f + 2 * number_of fs) ∙ omega (arith, flag_few f)
number_bit (f ∷ fs) (suc i) h = grind (arith, flag_few, bit_at-suc, number_bit fs i (omega arith))

flag_of_bit : (m : ℕ) → m < 2 → flag (nat_eq m 1) ≡ m
flag_of_bit m h = grind (arith)

pub number_is : (n : ℕ) → n < 2 ^ 32 → number_of (flags_of n) ≡ n
number_is n range =
    let below : number_of (flags_of n) < 2 ^ 32 = subst (λ (k : ℕ). number_of (flags_of n) < 2 ^ k) (length_flags_of n) (number_below (flags_of n)) in
    same_from_bits_below 32 (number_of (flags_of n)) n below range (λ i less.
    number_bit (flags_of n) i (omega (arith, length_flags_of n))
    ∙ ap flag (get_or_flags_of n i less) ∙ flag_of_bit (bit_at n i) (bit_at-lt n i))
