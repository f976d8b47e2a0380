-- The list has the segments before what is left.
use Rattle.std.proofs.Common.{◌≡◌, Bor, List, ℕ}
use Rattle.std.specs.Option.{option_map}
use Rattle.dma_script.specs.Words.{list_of}
use Rattle.dma_script.proofs.SegmentLemmas.{left_of, with_rest}
use Rattle.dma_script.proofs.arguments.list_in.Given as goal

abbrev pub invariant-loop-left : goal.invariant-loop-left
invariant-loop-left l = list_of l.word ≡ with_rest l.list (option_map (λ (rest : Bor (List ℕ)). rest.now) l.left)

abbrev pub decreases-loop-left : goal.decreases-loop-left
decreases-loop-left l = left_of l.left
