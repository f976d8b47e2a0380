use Rattle.std.proofs.Common.{◌≡◌, ◌<◌, ap, length, map, arith, true}
use Rattle.std.specs.{Vec.with_items, Prelude.slice_index_or}
use Rattle.std.proofs.lemmas.List.{with_items_is, length-map, get_or_default}
use Rattle.dma_engine.specs.{Answer.first_running, inner.Holds.view_of, inner.Holds.queue_forgotten}
use Rattle.dma_engine.specs.{inner.Inside.parts_of}
use Rattle.dma_engine.proofs.CallCases.{checkpoint_done, checkpoint_refused, checkpoint_starved, named_none}
use Rattle.dma_engine.proofs.{Boards.queue_small, Checkpoint.holds_next, Checkpoint.no_room_next, Checkpoint.view_next, Queues.holds_at}
use Rattle.dma_engine.proofs.engine.Engine.checkpoint.Goals.{After-forget_all}
use Rattle.dma_engine.proofs.engine.Engine.checkpoint.Goals as goal

pub returns-in-Some-clause-answer : goal.returns-in-Some-clause-answer
returns-in-Some-clause-answer c = checkpoint_refused c.args.self.now.view c.in-Some.ch c.in-Some.cookie c.in-Some.ensures

pub next_base-requires : goal.next_base-requires
next_base-requires c = named_none _ c.in_default.ensures

pub returns-in_err-base-clause-answer : goal.returns-in_err-base-clause-answer
returns-in_err-base-clause-answer c = grind (arith, checkpoint_starved, named_none)

pub forget_all-requires : goal.forget_all-requires
forget_all-requires c = λ k d less.
    let p = parts_of c.self.inside in
    let l : k < length p.queues = omega (arith, less, ap length c.deref_mut.ensures.value) in
    let q = slice_index_or p.queues k d in
    let small = queue_small (holds_at p c.self.invariant k q l (get_or_default p.queues k d q l)) in
    rw c.deref_mut.ensures.value (omega (arith, small))

-- the queues after it
all : (c : After-forget_all) → (with_items c.self.inside.queues c.forget_all.new.queues).items ≡ map queue_forgotten c.self.inside.queues.items
all c = grind (arith, length-map, with_items_is)

pub invariant_of-self : goal.invariant_of-self
invariant_of-self c =
    let p = parts_of c.self.inside in
    let base = rw (← c.self.view_is) at c.in_ok-base.ensures in
    let none = named_none (first_running (view_of p) (λ _. true)) (rw (← c.self.view_is) at c.in_default.ensures) in
    rw (all (goal.at.invariant_of-self c).After-forget_all, base, c.new.ensures.items) (holds_next p c.self.invariant none)

pub returns-clause-answer : goal.returns-clause-answer
returns-clause-answer c =
    let p = parts_of c.self.inside in
    let base = rw (← c.self.view_is) at c.in_ok-base.ensures in
    let none = named_none (first_running (view_of p) (λ _. true)) (rw (← c.self.view_is) at c.in_default.ensures) in
    rw (← c.self.view_is, all (goal.at.returns-clause-answer c).After-forget_all, base, c.new.ensures.items)
    (checkpoint_done (view_of p) _ none (view_next p))

pub returns-clause-room : goal.returns-clause-room
returns-clause-room c =
    let after = all (goal.at.returns-clause-room c).After-forget_all in
    (omega (arith, c.new.ensures.capacity, c.new.ensures.len), λ ch. rw after (no_room_next c.self.inside.queues.items ch))
