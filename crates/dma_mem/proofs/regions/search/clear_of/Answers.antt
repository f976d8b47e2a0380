use Rattle.std.proofs.Common.{arith}
use Rattle.dma_mem.proofs.RegionSearch.{region_clear}
use Rattle.dma_mem.proofs.regions.search.clear_of.Goals as goal

pub returns-then-not-bars-clause-none : goal.returns-then-not-bars-clause-none
returns-then-not-bars-clause-none c = grind (arith, region_clear)
