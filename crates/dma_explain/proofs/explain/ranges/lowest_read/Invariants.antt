-- The lowest address of the items so far.
use Rattle.dma_mem.specs.Places.{places}
use Rattle.dma_explain.proofs.LowestPlaces.{IsLowestRead}
use Rattle.dma_explain.proofs.explain.ranges.lowest_read.Given as goal

abbrev pub invariant-loop-item : goal.invariant-loop-item
invariant-loop-item l = IsLowestRead l.items (places l.ranges) l.item-index l.lowest
