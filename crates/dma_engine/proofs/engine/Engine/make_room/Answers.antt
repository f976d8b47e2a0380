use Rattle.std.proofs.Common.{◌≡◌, ◌-◌, ◌<◌, ◌≤◌, ◌∙◌, ap, arith, length, subst, sym, refl}
use Rattle.std.specs.Prelude.{map, slice_index_or, slice_set}
use Rattle.dma_engine.specs.View.{View, EngineState, object_of, state_at}
use Rattle.dma_engine.specs.{inner.Inside.parts_of, inner.Inside.queue_room, Object.unfinished, Room.no_room, inner.Holds.state_in}
use Rattle.dma_engine.proofs.{QueueCalls.holds_paused, Rooms.keeps_room, Rooms.room_set, Rooms.view_room, Queues.HoldsAt, Queues.queue_there, engine.Engine.make_room.Goals.After-index_mut-queue, Queues.seen, Queues.holds_there}
use Rattle.dma_engine.proofs.engine.Engine.make_room.Goals as goal

-- the queue that is read
read : (c : After-index_mut-queue) → HoldsAt (parts_of c.self.inside) c.in_ok-index.index c.index_mut-queue.result.now
read c = holds_there c.self.invariant (seen c.self.view_is) c.in_ok-index.ensures.there c.index_mut-queue.ensures.value

pub invariant_of-self-in_err-make_room : goal.invariant_of-self-in_err-make_room
invariant_of-self-in_err-make_room c =
    rw (c.reserve.ensures.items, c.make_room.ensures.same)
    (holds_paused (read (goal.at.invariant_of-self-in_err-make_room c).After-index_mut-queue) c.make_room.new.self.indices.spare
    c.make_room.new.self.outcomes.spare c.index_mut-queue.result.now.paused)

pub returns-in_err-make_room-clause-view : goal.returns-in_err-make_room-clause-view
returns-in_err-make_room-clause-view c =
    rw (c.reserve.ensures.items, c.make_room.ensures.same, ← c.self.view_is)
    (view_room (read (goal.at.returns-in_err-make_room-clause-view c).After-index_mut-queue) c.make_room.new.self.indices.spare
    c.make_room.new.self.outcomes.spare)

pub invariant_of-self-2 : goal.invariant_of-self-2
invariant_of-self-2 c =
    rw (c.reserve.ensures.items, c.make_room.ensures.same)
    (holds_paused (read (goal.at.invariant_of-self-2 c).After-index_mut-queue) c.make_room.new.self.indices.spare c.make_room.new.self.outcomes.spare
    c.index_mut-queue.result.now.paused)

pub returns-clause-view : goal.returns-clause-view
returns-clause-view c =
    rw (c.reserve.ensures.items, c.make_room.ensures.same, ← c.self.view_is)
    (view_room (read (goal.at.returns-clause-view c).After-index_mut-queue) c.make_room.new.self.indices.spare c.make_room.new.self.outcomes.spare)

pub returns-clause-made : goal.returns-clause-made
returns-clause-made c =
    let p = parts_of c.self.inside in
    let i = c.in_ok-index.index in
    let q = c.index_mut-queue.result.now in
    let r = c.make_room.new.self in
    let at = read (goal.at.returns-clause-made c).After-index_mut-queue in
    let room : slice_index_or (map queue_room (slice_set p.queues i r)) i no_room ≡ queue_room r = room_set p.queues i r at.less in
    let cookie : 0 < r.indices.spare = c.in_ok-make_room.ensures.cookie in
    let outcomes : q.given - q.forgotten - length q.outcomes.items ≤ r.outcomes.spare = c.in_ok-make_room.ensures.outcomes in
    let old : unfinished (state_in p i) ≤ r.outcomes.spare = omega (arith, outcomes, at.tied.given, at.tied.forgotten, ap length at.tied.outcomes) in
    rw (← c.in_ok-index.ensures.there.0) (record {
      entry = omega (arith, c.in_ok-reserve.ensures.ok);
      cookie = rw room cookie;
      outcomes = rw room (subst (λ (w : View). unfinished (state_at w i) ≤ r.outcomes.spare) (sym (returns-clause-view c))
          (subst (λ (s : EngineState). unfinished (state_at s.view i) ≤ r.outcomes.spare) c.self.view_is old));
    })

pub returns-in_err-make_room-clause-kept : goal.returns-in_err-make_room-clause-kept
returns-in_err-make_room-clause-kept c =
    let object = ap object_of (returns-in_err-make_room-clause-view c ∙ sym (seen c.self.view_is)) in
    keeps_room (read (goal.at.returns-in_err-make_room-clause-kept c).After-index_mut-queue) c.make_room.new.self _ _ _ c.self.view_is object
    (omega (arith, c.reserve.ensures.capacity, c.reserve.ensures.len)) refl c.make_room.ensures.kept.0 c.make_room.ensures.kept.1

pub returns-clause-kept : goal.returns-clause-kept
returns-clause-kept c =
    let object = ap object_of (returns-clause-view c ∙ sym (seen c.self.view_is)) in
    keeps_room (read (goal.at.returns-clause-kept c).After-index_mut-queue) c.make_room.new.self _ _ _ c.self.view_is object
    (omega (arith, c.reserve.ensures.capacity, c.reserve.ensures.len)) refl c.make_room.ensures.kept.0 c.make_room.ensures.kept.1

pub index_mut-queue-requires : goal.index_mut-queue-requires
index_mut-queue-requires c = omega (arith, queue_there c.self.invariant (seen c.self.view_is) c.in_ok-index.ensures.there, c.self.inside.queues.ok.0)
