use Rattle.std.proofs.Common.{◌≡◌, ◌-◌, arith, refl}
use Rattle.dma_engine.specs.{declared.entry.Entry.TheVariants.Issued}
use Rattle.dma_engine.specs.{inner.Holds.view_of, inner.Inside.parts_of, Object.used, inner.Holds.state_in}
use Rattle.dma_engine.proofs.{Boards.counted_at, CallCases.issue_done, QueueCalls.holds_issued, CallCases.issue_starved}
use Rattle.dma_engine.proofs.{QueueCalls.view_entered, Queues.HoldsAt, Queues.queue_there, engine.Engine.issue.Goals.After-index_mut-queue, Queues.seen}
use Rattle.dma_engine.proofs.Queues.{holds_there}
use Rattle.dma_engine.proofs.engine.Engine.issue.Goals as goal

-- the queue that is read
read : (c : After-index_mut-queue) → HoldsAt (parts_of c.self.inside) c.in_ok-index.index c.index_mut-queue.result.now
read c = holds_there c.self.invariant (seen c.self.view_is) c.in_ok-index.ensures.there c.index_mut-queue.ensures.value

pub overflow_sub-count : goal.overflow_sub-count
overflow_sub-count c =
    let at = read (goal.at.overflow_sub-count c).After-index_mut-queue in
    omega (arith, (counted_at (parts_of c.self.inside) c.self.invariant c.in_ok-index.index).issue, at.tied.issued, at.tied.given)

pub invariant_of-self-2 : goal.invariant_of-self-2
invariant_of-self-2 c =
    rw (c.push_reserved.ensures.items, c.reserve.ensures.items, ← c.in_ok-index.ensures.there.0)
    (holds_issued (read (goal.at.invariant_of-self-2 c).After-index_mut-queue))

pub returns-clause-answer : goal.returns-clause-answer
returns-clause-answer c =
    let p = parts_of c.self.inside in
    let i = c.in_ok-index.index in
    let q = c.index_mut-queue.result.now in
    let at = read (goal.at.returns-clause-answer c).After-index_mut-queue in
    let counted : q.given - q.issued ≡ used (state_in p i) - (state_in p i).issued = omega (arith, at.tied.issued, at.tied.given) in
    rw (← c.self.view_is, c.push_reserved.ensures.items, c.reserve.ensures.items, ← c.in_ok-index.ensures.there.0)
    (issue_done (view_of p) _ i _ at.there counted
    (view_entered at (record q { issued = q.given }) p.memory p.events (Issued i) refl))

pub index_mut-queue-requires : goal.index_mut-queue-requires
index_mut-queue-requires c = omega (arith, queue_there c.self.invariant (seen c.self.view_is) c.in_ok-index.ensures.there, c.self.inside.queues.ok.0)

pub returns-in_err-reserve-clause-answer : goal.returns-in_err-reserve-clause-answer
returns-in_err-reserve-clause-answer c = grind (arith, issue_starved)
