-- The words so far, and those that are left.
use Rattle.std.proofs.Common.{◌≡◌, ◌∷◌, ◌++◌, length}
use Rattle.std.specs.Prelude.{flat_map}
use Rattle.dma_script.specs.Words.{words_of}
use Rattle.dma_seeds.specs.Expect.{spaced}
use Rattle.dma_seeds.proofs.expect.spaced.Given as goal

abbrev pub invariant-loop-word : goal.invariant-loop-word
invariant-loop-word l =
    spaced (words_of l.words) ≡ l.text.items ++ flat_map (λ next. 32 ∷ next) (words_of l.rest)

abbrev pub decreases-loop-word : goal.decreases-loop-word
decreases-loop-word l = length (words_of l.rest)
