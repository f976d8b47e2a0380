use Rattle.std.proofs.Common.{◌<◌, arith, length}
use Rattle.dma_engine.specs.inner.Inside.{parts_of}
use Rattle.dma_engine.proofs.{Boards.queue_small, Queues.holds_at, Queues.many_queues}
use Rattle.dma_engine.proofs.engine.Engine.next_channel.Goals as goal

pub finished-requires : goal.finished-requires
finished-requires c =
    let p = parts_of c.self.inside in
    let there = rw (← c.self.view_is) at c.requires.there in
    let less : c.args.index < length p.queues = omega (arith, there, many_queues p c.self.invariant) in
    let small = queue_small (holds_at p c.self.invariant c.args.index c.index-queue.result.now less c.index-queue.ensures) in
    omega (arith, small)
