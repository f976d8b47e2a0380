-- The first line of a text.
use Rattle.std.proofs.Common.{◌≡◌, ℕ, ◌+◌, ◌-◌, ◌<◌, List, [], ◌∷◌, length, take, drop, get_or, true, false, eqb, zero, suc, refl, sym, ap, Some, None}
use Rattle.std.proofs.Common.{position, arith, add-one}
use Rattle.std.proofs.{lemmas.Grind.common_steps, lemmas.List.take_rest, lemmas.List.Quantifiers.position-Some, lemmas.List.Sums.fails_before_first}
use Rattle.std.specs.List.{onto_first}
use Rattle.dma_text.specs.Lines.{text_lines}

lines_cut : (text : List ℕ) (end : ℕ) → end < length text → eqb (get_or text end 0) 10 ≡ true → ((k : ℕ) → k < end → eqb (get_or text k 0) 10 ≡ false)
    → text_lines text ≡ take end text ∷ text_lines (drop (suc end) text)
lines_cut [] end within at none = absurd (omega arith)
lines_cut (b ∷ rest) zero within at none = rw at refl
lines_cut (b ∷ rest) (suc end) within at none =
    rw (none 0 (omega arith)) (ap (onto_first b) (lines_cut rest end (omega arith) at (λ k h. none (suc k) (omega arith))))

lines_whole : (text : List ℕ) → 0 < length text → ((k : ℕ) → k < length text → eqb (get_or text k 0) 10 ≡ false) → text_lines text ≡ text ∷ []
lines_whole [] some none = absurd (omega arith)
lines_whole (b ∷ []) some none = rw (none 0 (omega arith)) refl
lines_whole (b ∷ c ∷ rest) some none =
    rw (none 0 (omega arith)) (ap (onto_first b) (lines_whole (c ∷ rest) (omega arith) (λ k h. none (suc k) (omega arith))))

-- a byte without a position doesn't occur
pub nowhere : (b : ℕ) (bytes : List ℕ) → None ≡ position (λ x. eqb x b) bytes → (k d : ℕ) → k < length bytes → eqb (get_or bytes k d) b ≡ false
nowhere b bytes none k d within = grind (arith, common_steps, fails_before_first)

pub lines_at : (text : List ℕ) (end : ℕ) → Some end ≡ position (λ x. eqb x 10) text
    → text_lines text ≡ take end text ∷ text_lines (take (length text - (end + 1)) (drop (end + 1) text))
lines_at text end found =
    let at = position-Some (λ x. eqb x 10) text end 0 (sym found) in
    rw (take_rest text (end + 1), add-one) (lines_cut text end at.0 at.1 at.2)

pub lines_none : (text : List ℕ) → 0 < length text → None ≡ position (λ x. eqb x 10) text → text_lines text ≡ text ∷ []
lines_none text some none = lines_whole text some (λ k h. nowhere 10 text none k 0 h)
