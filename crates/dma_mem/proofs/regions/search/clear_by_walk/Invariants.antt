use Rattle.std.proofs.Common.{drop}
use Rattle.dma_mem.proofs.RegionSearch.{Walk}
use Rattle.dma_mem.proofs.regions.search.clear_by_walk.Given as goal

abbrev pub invariant-loop-index : goal.invariant-loop-index
invariant-loop-index l = Walk l.kind l.regions (drop l.index l.regions) l.segment.addr l.end
