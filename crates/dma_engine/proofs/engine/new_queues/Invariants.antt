use Rattle.std.proofs.Common.{◌≡◌}
use Rattle.std.specs.Prelude.{replicate}
use Rattle.dma_engine.specs.inner.Holds.{new_queue}
use Rattle.dma_engine.proofs.engine.new_queues.Given as goal

abbrev pub invariant-loop-n : goal.invariant-loop-n
invariant-loop-n l = l.queues.items ≡ replicate l._n new_queue
