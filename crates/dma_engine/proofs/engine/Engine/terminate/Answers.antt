use Rattle.std.proofs.Common.{arith, refl}
use Rattle.std.proofs.{lemmas.Grind.common_steps}
use Rattle.dma_mem.specs.declared.call.Call.TheVariants.{Terminate}
use Rattle.dma_engine.specs.{inner.Holds.view_of, inner.Inside.parts_of}
use Rattle.dma_engine.specs.declared.{call.Reply.TheVariants.Count, fault.EngineFault.TheVariants.NoChannel, fault.EngineFault.TheVariants.NoMemory}
use Rattle.dma_engine.proofs.CallCases.{channel_gone, refusal, terminate_done, terminate_starved}
use Rattle.dma_engine.proofs.{StartsAndEnds.holds_terminated, StartsAndEnds.view_terminated, Queues.HoldsAt, Queues.queue_there, Queues.seen, Queues.queue_back}
use Rattle.dma_engine.proofs.{Rooms.unfinished_found, Sizes.many_channels, engine.Engine.terminate.Goals.After-index_mut-queue, Queues.holds_there}
use Rattle.dma_engine.proofs.engine.Engine.terminate.Goals as goal

-- the queue that is read
read : (c : After-index_mut-queue) → HoldsAt (parts_of c.self.inside) c.in_ok-index.index c.index_mut-queue.result.now
read c = holds_there c.self.invariant (seen c.self.view_is) c.in_ok-index.ensures.there c.index_mut-queue.ensures.value

pub kept-requires : goal.kept-requires
kept-requires c =
    let p = parts_of c.self.inside in
    omega (arith, (read (goal.at.kept-requires c).After-index_mut-queue).there, many_channels p.base p.history)

pub terminate-requires : goal.terminate-requires
terminate-requires c =
    let at = read (goal.at.terminate-requires c).After-index_mut-queue in
    rw c.kept.ensures (omega (arith, at.tied.given, at.tied.forgotten, at.tied.many))

pub invariant_of-self-2 : goal.invariant_of-self-2
invariant_of-self-2 c =
    let at = read (goal.at.invariant_of-self-2 c).After-index_mut-queue in
    let done = rw (← c.self.view_is) at c.done-done.ensures in
    let count = rw (← c.in_ok-index.ensures.there.0, ← c.self.view_is) at c.unfinished-count.ensures in
    rw (
      c.push_reserved.ensures.items,
      c.in_ok-terminate.ensures.ended,
      c.kept.ensures,
      c.deref.ensures.value,
      c.reserve.ensures.items,
      done,
      count,
      unfinished_found at,
      ← c.in_ok-index.ensures.there.0,
    )
    (holds_terminated at c.terminate.new.self.outcomes.spare)

pub returns-clause-answer : goal.returns-clause-answer
returns-clause-answer c =
    let p = parts_of c.self.inside in
    let i = c.in_ok-index.index in
    let at = read (goal.at.returns-clause-answer c).After-index_mut-queue in
    let done = rw (← c.self.view_is) at c.done-done.ensures in
    let count = rw (← c.in_ok-index.ensures.there.0, ← c.self.view_is) at c.unfinished-count.ensures in
    rw (
      ← c.self.view_is,
      c.push_reserved.ensures.items,
      c.in_ok-terminate.ensures.ended,
      c.kept.ensures,
      c.deref.ensures.value,
      c.reserve.ensures.items,
      done,
      count,
      ← c.in_ok-index.ensures.there.0,
    )
    (terminate_done (view_of p) _ i _ at.there refl
    (view_terminated at c.terminate.new.self.outcomes.spare _ c.index_mut-queue.result.now.given))

pub index_mut-queue-requires : goal.index_mut-queue-requires
index_mut-queue-requires c = omega (arith, queue_there c.self.invariant (seen c.self.view_is) c.in_ok-index.ensures.there, c.self.inside.queues.ok.0)

pub returns-in_err-reserve-clause-answer : goal.returns-in_err-reserve-clause-answer
returns-in_err-reserve-clause-answer c =
    let v = view_of (parts_of c.self.inside) in
    let there = rw (← c.self.view_is) at c.in_ok-index.ensures.there in
    rw (← c.self.view_is, c.reserve.ensures.items)
    (refusal (λ count. Count count) v v (Terminate c.args.ch) NoMemory c.from_residual-in_err-reserve.result
    c.from_residual-in_err-reserve.ensures.1 (terminate_starved v c.args.ch there.1))

pub returns-in_err-terminate-clause-answer : goal.returns-in_err-terminate-clause-answer
returns-in_err-terminate-clause-answer c =
    let p = parts_of c.self.inside in
    let v = view_of p in
    let there = rw (← c.self.view_is) at c.in_ok-index.ensures.there in
    let queues = queue_back p.queues c.in_ok-index.index c.in_err-terminate.ensures.refused c.index_mut-queue.ensures.value in
    rw (← c.self.view_is, c.reserve.ensures.items, queues)
    (refusal (λ count. Count count) v v (Terminate c.args.ch) NoMemory c.from_residual-in_err-terminate.result
    c.from_residual-in_err-terminate.ensures.1 (terminate_starved v c.args.ch there.1))

pub returns-in_err-index-clause-answer : goal.returns-in_err-index-clause-answer
returns-in_err-index-clause-answer c =
    let v = c.args.self.now.view in
    refusal (λ count. Count count) v v (Terminate c.args.ch) NoChannel c.from_residual.result
    (rw c.in_err-index.ensures.none.0 at c.from_residual.ensures.1) (rw (channel_gone v c.args.ch c.in_err-index.ensures.none.1) refl)

pub returns-in_err-terminate-clause-room : goal.returns-in_err-terminate-clause-room
returns-in_err-terminate-clause-room c = grind (arith, common_steps)

pub returns-in_err-index-clause-room : goal.returns-in_err-index-clause-room
returns-in_err-index-clause-room c = grind (arith, common_steps)

pub returns-in_err-index-clause-kept : goal.returns-in_err-index-clause-kept
returns-in_err-index-clause-kept c = grind (arith, common_steps)

pub returns-in_err-reserve-clause-kept : goal.returns-in_err-reserve-clause-kept
returns-in_err-reserve-clause-kept c = grind (arith, common_steps)

pub returns-in_err-terminate-clause-kept : goal.returns-in_err-terminate-clause-kept
returns-in_err-terminate-clause-kept c = grind (arith, common_steps)

pub returns-clause-kept : goal.returns-clause-kept
returns-clause-kept c = grind (arith, common_steps)
