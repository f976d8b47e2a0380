-- The first word of a line.
use Rattle.std.proofs.Common.{◌≡◌, ℕ, ◌-◌, ◌<◌, List, [], ◌∷◌, length, take, drop, get_or, true, false, eqb, zero, suc, refl, ap, Some, None, position}
use Rattle.std.proofs.Common.{arith}
use Rattle.std.proofs.{lemmas.List.take_rest, lemmas.List.Quantifiers.position-Some, lemmas.List.Splits.slice_split_none}
use Rattle.std.specs.List.{onto_first}
use Rattle.dma_text.proofs.TextLines.{nowhere}
use Rattle.dma_insn.specs.{AssemblyText.words_of, LineReading.words_after}

words_cut : (line : List ℕ) (end : ℕ) → end < length line → eqb (get_or line end 0) 32 ≡ true → ((k : ℕ) → k < end → eqb (get_or line k 0) 32 ≡ false)
    → words_of line ≡ take end line ∷ words_after (drop end line)
words_cut [] end within at none = absurd (omega arith)
words_cut (b ∷ rest) zero within at none = rw at refl
words_cut (b ∷ rest) (suc end) within at none =
    rw (none 0 (omega arith)) (ap (onto_first b) (words_cut rest end (omega arith) at (λ k h. none (suc k) (omega arith))))

pub words_at : (line : List ℕ) (end : ℕ) → Some end ≡ position (λ x. eqb x 32) line
    → words_of line ≡ take end line ∷ words_after (take (length line - end) (drop end line))
words_at line end found = grind (arith, position-Some, take_rest, words_cut)

pub words_none : (line : List ℕ) → None ≡ position (λ x. eqb x 32) line → words_of line ≡ line ∷ []
words_none line none = slice_split_none (λ x. eqb x 32) line (nowhere 32 line none)
