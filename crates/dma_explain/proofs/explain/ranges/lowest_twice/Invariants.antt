use Rattle.dma_mem.proofs.NeighboursMeet.{NoOverlap}
use Rattle.dma_explain.proofs.explain.ranges.lowest_twice.Given as goal

abbrev pub invariant-loop-next : goal.invariant-loop-next
invariant-loop-next l = NoOverlap l.sorted l.next
