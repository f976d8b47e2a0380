use Rattle.std.proofs.Common.{arith, sym}
use Rattle.dma_engine.specs.inner.Inside.{parts_of}
use Rattle.dma_engine.proofs.{Boards.queue_small, StartsAndEnds.stored_small, Queues.holds_at, Queues.HoldsAt, engine.Engine.running.Goals.After-index-queue}
use Rattle.dma_engine.proofs.engine.Engine.running.Goals as goal

-- the queue that is read
read : (c : After-index-queue) → HoldsAt (parts_of c.self.inside) c.from-index.result c.index-queue.result.now
read c =
    holds_at (parts_of c.self.inside) c.self.invariant c.from-index.result c.index-queue.result.now
    (omega (arith, c.if-index-len.false, c.len.ensures, c.self.inside.queues.ok.0)) c.index-queue.ensures

pub finished-cookie-requires : goal.finished-cookie-requires
finished-cookie-requires c = omega (arith, queue_small (read (goal.at.finished-cookie-requires c).After-index-queue))

pub overflow_cast-stored : goal.overflow_cast-stored
overflow_cast-stored c =
    let small = stored_small (read (goal.at.overflow_cast-stored c).After-index-queue) (sym c.if-not-is_loaded.ensures) in
    omega (arith, small.0, c.stored-stored.ensures)

pub overflow_add-cookie : goal.overflow_add-cookie
overflow_add-cookie c = omega (arith, queue_small (read (goal.at.overflow_add-cookie c).After-index-queue), c.finished-cookie.ensures)
