use Rattle.std.proofs.Common.{refl, ◌∙◌, arith}
use Rattle.dma_engine.specs.{inner.Due.Adds, inner.Due.IsNext, inner.Inside.parts_of, declared.call.Reply.TheVariants.Turned}
use Rattle.dma_engine.specs.{declared.fault.EngineFault.TheVariants.NoMemory, inner.Holds.view_of}
use Rattle.dma_mem.specs.declared.call.Call.TheVariants.{Step}
use Rattle.dma_engine.proofs.Instructions.{added_answers, added_starved, can_execute, holds_added, the_step}
use Rattle.dma_engine.proofs.{CallCases.refusal, Queues.many_queues, StepCases.due, StepCases.Due, engine.Engine.enter.Goals.After-index_mut-queue}
use Rattle.dma_engine.proofs.engine.Engine.enter.Goals as goal

pub execute-requires : goal.execute-requires
execute-requires c =
    let d = due (IsNext c.args.next) c.self.invariant c.from.ensures c.index_mut-queue.ensures.value (rw (← c.self.view_is) at c.requires.due) in
    let can = can_execute c.args.next c.self.inside.memory d refl in
    record { next = can.next; loaded = can.loaded; count = can.count; ready = can.ready }

-- the instruction that adds the entry is due
it : (c : After-index_mut-queue)
    → Due (parts_of c.self.inside) c.args.ch c.index_mut-queue.result.now (Adds (view_of (parts_of c.self.inside)) c.args.ch c.args.entry)
it c = due (Adds (view_of (parts_of c.self.inside)) c.args.ch c.args.entry) c.self.invariant c.from.ensures c.index_mut-queue.ensures.value
    (rw (← c.self.view_is) at c.requires.adds)

pub invariant_of-self-2 : goal.invariant_of-self-2
invariant_of-self-2 c =
    let d = it (goal.at.invariant_of-self-2 c).After-index_mut-queue in
    let one = the_step d.it in
    let step = c.execute.ensures.step in
    rw (
      c.from.ensures,
      c.push_reserved.ensures.items,
      c.reserve.ensures.items,
      step.memory ∙ one.image,
      step.pages,
      step.events ∙ one.flags,
      step.channel,
    ) (holds_added c.args.entry d)

pub returns-clause-answer : goal.returns-clause-answer
returns-clause-answer c =
    rw (← c.self.view_is, c.push_reserved.ensures.items, c.reserve.ensures.items, c.execute.ensures.step.channel, c.from.ensures)
    (added_answers c.args.entry (it (goal.at.returns-clause-answer c).After-index_mut-queue) c.execute.new.memory.image c.execute.new.events)

pub returns-in_err-reserve-clause-answer : goal.returns-in_err-reserve-clause-answer
returns-in_err-reserve-clause-answer c =
    let p = parts_of c.self.inside in
    let v = view_of p in
    rw (← c.self.view_is, c.reserve.ensures.items)
    (refusal (λ turn. Turned turn) v v (Step c.args.ch) NoMemory c.from_residual.result c.from_residual.ensures.1
    (added_starved p c.self.invariant c.args.ch c.args.entry (rw (← c.self.view_is) at c.requires.adds)))

pub index_mut-queue-requires : goal.index_mut-queue-requires
index_mut-queue-requires c =
    omega (arith, (rw (← c.self.view_is) at c.requires.due).0, c.from.ensures, many_queues (parts_of c.self.inside) c.self.invariant, c.self.inside.queues.ok.0)

pub overflow_add-self : goal.overflow_add-self
overflow_add-self c = omega (arith, (rw (← c.self.view_is) at c.requires.due).2)
