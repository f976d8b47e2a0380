use Rattle.std.proofs.Common.{arith}
use Rattle.dma_mem.proofs.RegionSearch.{walk_start, walk_below}
use Rattle.dma_mem.proofs.regions.search.clear_by_walk.Goals as goal

pub loop-index-init : goal.loop-index-init
loop-index-init c = walk_start c.args.kind c.args.regions.now c.args.segment.addr c.begun_by.result _ c.requires c.begun_by.ensures.bound
    c.begun_by.ensures.first c.saturating_sub-index.ensures

pub returns-then-first-start-clause-none : goal.returns-then-first-start-clause-none
returns-then-first-start-clause-none c = grind (arith, walk_below)

pub returns-then-fails_at-clause-none : goal.returns-then-fails_at-clause-none
returns-then-fails_at-clause-none c = grind (arith, walk_below)
