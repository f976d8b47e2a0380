-- Whether a line is skipped: it is if its first byte that is not a blank is #.
use Rattle.std.proofs.Common.{◌≡◌, ℕ, ◌<◌, ◌==◌, not, false, List, [], ◌∷◌, length, filter, get_or, arith}
use Rattle.std.specs.List.{onto_first, slice_split}
use Rattle.dma_text.specs.Lines.{is_blank}
use Rattle.dma_script.specs.{Words.words_of, Lines.is_skipped}
use Rattle.dma_script.proofs.HexLemmas.{some_word}

part_skips : (a : ℕ) (parts : List (List ℕ)) → is_skipped (filter (λ word. not (length word == 0)) (onto_first a parts)) ≡ (a == 35)
part_skips a parts = grind (arith, some_word)

pub first_skips : (line : List ℕ) → 0 < length line → is_blank (get_or line 0 0) ≡ false → is_skipped (words_of line) ≡ (get_or line 0 0 == 35)
first_skips [] some plain = absurd (omega arith)
first_skips (a ∷ rest) some plain = rw plain (part_skips a (slice_split is_blank rest))
