-- Pairs of digits, one after another.
use Rattle.std.proofs.Common.{◌≡◌, ℕ, ◌≤◌, ◌+◌, ◌*◌, Option, Some, None, List, [], ◌∷◌, ◌++◌, length, drop, get_or, refl, ap, ◌∙◌, arith}
use Rattle.std.proofs.Common.{append_assoc, true, false, eqb, eq-eqb, Result, Ok}
use Rattle.std.proofs.lemmas.Bool.{eqb-true, ne_eqb, false_from_ne_true, or_cases}
use Rattle.std.specs.Option.{option_and_then, option_map}
use Rattle.dma_script.specs.Pairs.{is_gap, pair_of, pairs_from}
use Rattle.dma_script.specs.{Words.hex_digit_of, Words.hex_pair_of, declared.fault.Fault.Fault, inner.Digits.pairs_after}
use Rattle.dma_text.specs.Results.{◌>>=◌}

-- One more gap, a line feed or another.
pub pairs_after_feed : (before : List ℕ) (line : ℕ) (rest : List ℕ) → 1 ≤ length rest → is_gap (get_or rest 0 0) ≡ true → get_or rest 0 0 ≡ 10
    → pairs_after before (line + 1) (drop 1 rest) ≡ pairs_after before line rest
pairs_after_feed before line [] one gap feed = absurd (omega arith)
pairs_after_feed before line (a ∷ []) one gap feed = rw gap refl
pairs_after_feed before line (a ∷ b ∷ rest) one gap feed = let is : eqb a 10 ≡ true = eq-eqb a 10 feed in rw (gap, is) refl

pub pairs_after_gap : (before : List ℕ) (line : ℕ) (rest : List ℕ) → 1 ≤ length rest → is_gap (get_or rest 0 0) ≡ true → (get_or rest 0 0 ≡ 10 → ⊥)
    → pairs_after before line (drop 1 rest) ≡ pairs_after before line rest
pairs_after_gap before line [] one gap none = absurd (omega arith)
pairs_after_gap before line (a ∷ []) one gap none = rw gap refl
pairs_after_gap before line (a ∷ b ∷ rest) one gap none = let is : eqb a 10 ≡ false = ne_eqb a 10 none in rw (gap, is) refl

joined : (before : List ℕ) (b : ℕ) (rest : Result (List ℕ) Fault)
    → (rest >>= (λ more. Ok ((before ++ b ∷ []) ++ more))) ≡ ((rest >>= (λ more. Ok (b ∷ more))) >>= (λ more. Ok (before ++ more)))
joined before b rest = grind (arith, append_assoc)

no_digit_at : (b gap : ℕ) → hex_digit_of gap ≡ None → eqb b gap ≡ true → hex_digit_of b ≡ None
no_digit_at b gap none is = ap hex_digit_of (eqb-true b gap is) ∙ none

-- A gap is no digit.
no_digit : (b : ℕ) → is_gap b ≡ true → hex_digit_of b ≡ None
no_digit b gap = grind (arith, or_cases, no_digit_at)

-- A pair of digits does not begin with a gap.
no_gap : (a b byte : ℕ) → hex_pair_of a b ≡ Some byte → is_gap a ≡ false
no_gap a b byte is = grind (arith, false_from_ne_true, no_digit)

-- What two digits spell.
pair_spelled : (line : ℕ) (high low : Option ℕ) (byte : ℕ) → option_and_then (λ h. option_map (λ l. 16 * h + l) low) high ≡ Some byte
    → pair_of line high low ≡ Ok byte
pair_spelled line high low byte h = grind (arith)

-- One more pair.
pub pairs_after_pair : (before : List ℕ) (line byte : ℕ) (rest : List ℕ) → 2 ≤ length rest → hex_pair_of (get_or rest 0 0) (get_or rest 1 0) ≡ Some byte
    → pairs_after (before ++ byte ∷ []) line (drop 2 rest) ≡ pairs_after before line rest
pairs_after_pair before line byte [] two is = absurd (omega arith)
pairs_after_pair before line byte (a ∷ []) two is = absurd (omega arith)
pairs_after_pair before line byte (a ∷ b ∷ rest) two is =
    rw (no_gap a b byte is, pair_spelled line (hex_digit_of a) (hex_digit_of b) byte is) (joined before byte (pairs_from line rest))

-- A space changes nothing.
pub pairs_past_space : (line : ℕ) (rest : List ℕ) → 1 ≤ length rest → get_or rest 0 0 ≡ 32 → pairs_from line (drop 1 rest) ≡ pairs_from line rest
pairs_past_space line [] one is = absurd (omega arith)
pairs_past_space line (a ∷ []) one is = rw is refl
pairs_past_space line (a ∷ b ∷ rest) one is = rw is refl

-- If two texts have the same pairs, then they have the same behind bytes that were read before.
pub pairs_after_same : (before : List ℕ) (line : ℕ) (rest shorter : List ℕ) → pairs_from line shorter ≡ pairs_from line rest
    → pairs_after before line shorter ≡ pairs_after before line rest
pairs_after_same before line rest shorter same = ap (λ read. read >>= (λ more. Ok (before ++ more))) same
