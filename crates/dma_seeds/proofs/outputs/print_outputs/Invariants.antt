-- The outputs so far are appended.
use Rattle.std.proofs.Common.{◌≡◌, ◌++◌, ◌+◌, drop}
use Rattle.dma_seeds.specs.Seeds.{numbered}
use Rattle.dma_seeds.proofs.outputs.print_outputs.Given as goal

abbrev pub invariant-loop-at : goal.invariant-loop-at
invariant-loop-at l =
    l.initial.out.items ++ numbered 1 l.outputs ≡ l.out.items ++ numbered (l.at + 1) (drop l.at l.outputs)
