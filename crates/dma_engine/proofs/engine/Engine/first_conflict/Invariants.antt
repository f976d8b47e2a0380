use Rattle.std.proofs.Common.{◌≡◌, None, find}
use Rattle.dma_engine.specs.{View.object_of, inner.Accesses.conflicts}
use Rattle.dma_engine.proofs.WhatRuns.{below}
use Rattle.dma_engine.proofs.engine.Engine.first_conflict.Given as goal

abbrev pub invariant-loop-index : goal.invariant-loop-index
invariant-loop-index l =
    find (λ r. conflicts l.access r.transfer) (below (object_of l.self.view) l.self.view.schedule l.index) ≡ None
