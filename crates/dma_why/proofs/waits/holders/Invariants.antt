use Rattle.std.proofs.Common.{◌≡◌}
use Rattle.std.specs.List.{filter_map}
use Rattle.dma_engine.specs.View.{object_of}
use Rattle.dma_engine.proofs.WhatRuns.{below}
use Rattle.dma_why.specs.Waits.{holder}
use Rattle.dma_why.proofs.waits.holders.Given as goal

abbrev pub invariant-loop-other : goal.invariant-loop-other
invariant-loop-other l =
    let v = l.engine.view in l.found.items ≡ filter_map (holder l.transfer) (below (object_of v) v.schedule l.other)
