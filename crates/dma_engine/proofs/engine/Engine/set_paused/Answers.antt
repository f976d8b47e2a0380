use Rattle.std.proofs.Common.{ap, arith, refl}
use Rattle.dma_engine.specs.{inner.Holds.view_of, inner.Inside.parts_of, View.object_of}
use Rattle.dma_engine.proofs.{CallCases.paused_done, CallCases.paused_gone, QueueCalls.holds_paused, QueueCalls.view_paused, Queues.HoldsAt}
use Rattle.dma_engine.proofs.{Queues.queue_there, Rooms.keeps_room, engine.Engine.set_paused.Goals.After-index_mut-queue, Queues.seen, Queues.holds_there}
use Rattle.dma_engine.proofs.engine.Engine.set_paused.Goals as goal

pub returns-in_err-index-clause-answer : goal.returns-in_err-index-clause-answer
returns-in_err-index-clause-answer c = grind (arith, paused_gone)

-- the queue that is read
read : (c : After-index_mut-queue) → HoldsAt (parts_of c.self.inside) c.in_ok-index.index c.index_mut-queue.result.now
read c = holds_there c.self.invariant (seen c.self.view_is) c.in_ok-index.ensures.there c.index_mut-queue.ensures.value

pub invariant_of-self : goal.invariant_of-self
invariant_of-self c =
    let q = c.index_mut-queue.result.now in
    holds_paused (read (goal.at.invariant_of-self c).After-index_mut-queue) q.indices.spare q.outcomes.spare c.args.paused

pub returns-clause-answer : goal.returns-clause-answer
returns-clause-answer c =
    let q = c.index_mut-queue.result.now in
    let at = read (goal.at.returns-clause-answer c).After-index_mut-queue in
    rw (← c.self.view_is, ← c.in_ok-index.ensures.there.0)
    (paused_done (view_of (parts_of c.self.inside)) _ c.in_ok-index.index c.args.paused at.there
    (view_paused at q.indices.spare q.outcomes.spare c.args.paused))

pub returns-clause-kept : goal.returns-clause-kept
returns-clause-kept c =
    let q = c.index_mut-queue.result.now in
    let at = read (goal.at.returns-clause-kept c).After-index_mut-queue in
    keeps_room at (record q { paused = c.args.paused }) _ _ _ c.self.view_is
    (ap object_of (view_paused at q.indices.spare q.outcomes.spare c.args.paused)) (omega arith) refl (omega arith) (omega arith)

pub index_mut-queue-requires : goal.index_mut-queue-requires
index_mut-queue-requires c = omega (arith, queue_there c.self.invariant (seen c.self.view_is) c.in_ok-index.ensures.there, c.self.inside.queues.ok.0)
