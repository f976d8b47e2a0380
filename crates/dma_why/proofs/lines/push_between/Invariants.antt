use Rattle.std.proofs.Common.{◌≡◌, ◌++◌, take}
use Rattle.dma_why.specs.Why.{texts_between}
use Rattle.dma_why.proofs.lines.push_between.Given as goal

abbrev pub invariant-loop-index : goal.invariant-loop-index
invariant-loop-index g l =
    l.out.items ≡ l.initial.out.items ++ texts_between l.between g.T.Text.text (take l.index l.values)
