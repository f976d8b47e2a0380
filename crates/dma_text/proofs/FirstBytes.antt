-- The first position of a byte: the one that a search finds is the one that the definition counts.
use Rattle.std.proofs.Common.{◌≡◌, ℕ, false, List, length, Option, Some, None, refl, arith}
use Rattle.std.specs.Prelude.{◌==◌, position, nat_lt}
use Rattle.std.proofs.{lemmas.Bool.lt-ltb, lemmas.Bool.le-ltb, lemmas.Bool.false_from_ne_true, lemmas.List.Sums.position_or_len_is}
use Rattle.memchr.specs.Find.{IsFirstByte, is_byte}

-- the position that a search finds is the one that `position` counts
pub first_place : (byte : ℕ) (xs : List ℕ) (r : Option ℕ) → IsFirstByte (is_byte byte) xs r → r ≡ position (λ b. b == byte) xs
first_place byte xs None h =
    let counted = position_or_len_is (λ b. b == byte) xs (length xs) 0 (omega arith) (λ k l. false_from_ne_true _ (h k (omega arith) l))
    (λ l. absurd (omega arith)) in
    let beyond : nat_lt (length xs) (length xs) ≡ false = le-ltb _ _ (omega arith) in
    rw (counted, beyond) refl
first_place byte xs (Some k) h = grind (arith, position_or_len_is, false_from_ne_true, lt-ltb)
