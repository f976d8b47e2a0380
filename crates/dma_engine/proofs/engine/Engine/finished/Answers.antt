use Rattle.std.proofs.Common.{◌<◌, arith, length, sym}
use Rattle.std.proofs.lemmas.Bool.{ltb-true}
use Rattle.dma_engine.specs.inner.Inside.{parts_of}
use Rattle.dma_engine.proofs.{Boards.queue_small, Queues.holds_at}
use Rattle.dma_engine.proofs.engine.Engine.finished.Goals as goal

pub finished-requires : goal.finished-requires
finished-requires c =
    let queues = c.self.inside.queues.items in
    let found = rw c.deref.ensures.value at c.in-Some.ensures.lookup in
    let less : c.from.result < length queues = ltb-true c.from.result (length queues) (sym found.0) in
    let small = queue_small (holds_at (parts_of c.self.inside) c.self.invariant c.from.result c.in-Some.queue.now less found.1) in
    omega (arith, small)
