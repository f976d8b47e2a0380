use Rattle.std.proofs.Common.{◌<◌, arith, length, sym}
use Rattle.dma_engine.specs.inner.Inside.{parts_of}
use Rattle.dma_engine.proofs.{StartsAndEnds.stored_small, Queues.holds_at, Queues.many_queues}
use Rattle.dma_engine.proofs.engine.Engine.done.Goals as goal

pub overflow_cast-result : goal.overflow_cast-result
overflow_cast-result c =
    let p = parts_of c.self.inside in
    let less : c.args.index < length p.queues = omega (arith, (rw (← c.self.view_is) at c.requires), many_queues p c.self.invariant) in
    let small = stored_small (holds_at p c.self.invariant c.args.index c.index-queue.result.now less c.index-queue.ensures) (sym c.if-is_loaded.ensures) in
    omega (arith, small.0, c.stored.ensures)
