-- The lines so far are appended.
use Rattle.std.proofs.Common.{◌≡◌, ◌++◌, length}
use Rattle.dma_seeds.specs.Seeds.{indented}
use Rattle.dma_seeds.proofs.outputs.print_indented.Given as goal

abbrev pub invariant-loop-rest : goal.invariant-loop-rest
invariant-loop-rest l = l.initial.out.items ++ indented l.fn.text ≡ l.out.items ++ indented l.rest

abbrev pub decreases-loop-rest : goal.decreases-loop-rest
decreases-loop-rest l = length l.rest
