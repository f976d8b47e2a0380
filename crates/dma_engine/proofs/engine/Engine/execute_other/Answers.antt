use Rattle.std.proofs.Common.{◌∙◌, arith, refl, sym, inl, inr}
use Rattle.std.proofs.lemmas.Grind.{common_steps}
use Rattle.dma_engine.specs.{inner.Due.IsNext, inner.Inside.parts_of}
use Rattle.dma_engine.proofs.Instructions.{can_execute, moved_answers, the_step}
use Rattle.dma_engine.proofs.Moves.{failed, moves_or_fails, went_on}
use Rattle.dma_engine.proofs.{Queues.many_queues, StepCases.due, StepCases.goes_on, StepCases.Due, engine.Engine.execute_other.Goals.After-index_mut-queue}
use Rattle.dma_engine.proofs.engine.Engine.execute_other.Goals as goal

-- the instruction is due
it : (c : After-index_mut-queue) → Due (parts_of c.self.inside) c.args.ch c.index_mut-queue.result.now (IsNext c.args.next)
it c = due (IsNext c.args.next) c.self.invariant c.from.ensures c.index_mut-queue.ensures.value (rw (← c.self.view_is) at c.requires.due)

pub execute-turn-requires : goal.execute-turn-requires
execute-turn-requires c =
    let can = can_execute c.args.next c.self.inside.memory (it (goal.at.execute-turn-requires c).After-index_mut-queue) refl in
    record { next = can.next; loaded = can.loaded; count = can.count; ready = can.ready }

pub invariant_of-self : goal.invariant_of-self
invariant_of-self c =
    let d = goes_on c.args.next c.requires.other (it (goal.at.invariant_of-self c).After-index_mut-queue) in
    let one = the_step d.it in
    let moved = sym one.turn ∙ sym c.execute-turn.ensures.step.turn ∙ c.in-Moved.is in
    rw (
      c.from.ensures,
      c.execute-turn.ensures.step.memory ∙ one.image,
      c.execute-turn.ensures.step.pages,
      c.execute-turn.ensures.step.events
          ∙ one.flags,
      c.execute-turn.ensures.step.channel,
    ) (went_on d moved).holds

pub unreachable-requires : goal.unreachable-requires
unreachable-requires c =
    let d = goes_on c.args.next c.requires.other (it (goal.at.unreachable-requires c).After-index_mut-queue) in
    let is = c.execute-turn.ensures.step.turn ∙ (the_step d.it).turn in
    elim (moves_or_fails (parts_of c.self.inside) d.it.transfer _ d.holds) [
      | inl moved ↦ c.in_default.not-Moved (is ∙ moved)
      | inr fails ↦ c.in_default.not-Fault fails.0 (is ∙ fails.1)
    ]

pub returns-in-Moved-clause-moved : goal.returns-in-Moved-clause-moved
returns-in-Moved-clause-moved c =
    let d = goes_on c.args.next c.requires.other (it (goal.at.returns-in-Moved-clause-moved c).After-index_mut-queue) in
    let moved = sym (the_step d.it).turn ∙ sym c.execute-turn.ensures.step.turn ∙ c.in-Moved.is in
    λ _. rw (← c.self.view_is, c.execute-turn.ensures.step.channel, c.from.ensures)
    (moved_answers d.it c.execute-turn.new.memory.image c.execute-turn.new.events c.self.inside.history.items moved (went_on d moved).turn_is)

pub returns-in-Fault-clause-fails : goal.returns-in-Fault-clause-fails
returns-in-Fault-clause-fails c =
    let asked = rw (← c.self.view_is) at c.requires.due in
    let d = goes_on c.args.next c.requires.other (it (goal.at.returns-in-Fault-clause-fails c).After-index_mut-queue) in
    let fails = sym (the_step d.it).turn ∙ sym c.execute-turn.ensures.step.turn ∙ c.in-Fault.is in
    rw (← c.self.view_is) (asked.0, asked.1, asked.2, rw d.it.runs_is (failed (parts_of c.self.inside) d.it.transfer _ c.in-Fault.kind c.self.invariant fails))

pub index_mut-queue-requires : goal.index_mut-queue-requires
index_mut-queue-requires c =
    omega (arith, (rw (← c.self.view_is) at c.requires.due).0, c.from.ensures, many_queues (parts_of c.self.inside) c.self.invariant, c.self.inside.queues.ok.0)

pub overflow_add-self : goal.overflow_add-self
overflow_add-self c = omega (arith, (rw (← c.self.view_is) at c.requires.due).2)

pub invariant_of-self-in-Fault : goal.invariant_of-self-in-Fault
invariant_of-self-in-Fault c = grind (arith, common_steps)

pub returns-in-Fault-clause-moved : goal.returns-in-Fault-clause-moved
returns-in-Fault-clause-moved c = grind (arith, common_steps)

pub returns-in-Fault-clause-still : goal.returns-in-Fault-clause-still
returns-in-Fault-clause-still c = grind (arith, common_steps)
