use Rattle.std.proofs.Common.{◌≡◌, ◌++◌, take, drop, map}
use Rattle.dma_engine.specs.inner.Holds.{queue_forgotten}
use Rattle.dma_engine.proofs.engine.checkpoints.forget_all.Given as goal

abbrev pub invariant-loop-queue : goal.invariant-loop-queue
invariant-loop-queue l =
    l.queue-items ≡ map queue_forgotten (take l.queue-index l.initial.queue-items) ++ drop l.queue-index l.initial.queue-items
