use Rattle.std.proofs.lemmas.Grind.{common_steps}
use Rattle.std.proofs.Common.{arith, sym, ap}
use Rattle.dma_engine.specs.{inner.Inside.parts_of, inner.Holds.view_of, Turn.Stepped, Answer.reply_of, declared.call.Reply.TheVariants.Turned}
use Rattle.dma_engine.specs.declared.{turn.Turn.TheVariants.Halted, turn.Turn.TheVariants.Paused, fault.EngineFault.TheVariants.NoChannel}
use Rattle.dma_mem.specs.declared.call.Call.TheVariants.{Step}
use Rattle.dma_engine.proofs.{CallCases.refusal, StepCases.due_weaker, StepCases.stepped_so, Queues.HoldsAt, Queues.many_queues, Queues.holds_at}
use Rattle.dma_engine.proofs.{EarlyTurns.gone_turn, EarlyTurns.halted_at, EarlyTurns.paused_at, EarlyTurns.may_start}
use Rattle.dma_engine.proofs.engine.Engine.rare_step.Goals.{After-index-queue}
use Rattle.dma_engine.proofs.engine.Engine.rare_step.Goals as goal

-- the queue that is read
read : (c : After-index-queue) → HoldsAt (parts_of c.self.inside) c.args.ch c.index-queue.result.now
read c =
    let p = parts_of c.self.inside in
    let there = rw (← c.self.view_is) at c.in_ok-index.ensures.there in
    holds_at p c.self.invariant c.args.ch c.index-queue.result.now (omega (arith, there.1, many_queues p c.self.invariant))
    (rw there.0 at c.index-queue.ensures)

pub start-requires : goal.start-requires
start-requires c =
    let at = read (goal.at.start-requires c).After-index-queue in
    rw (← c.self.view_is) (may_start at (sym c.if-is_halted.ensures) (sym c.if-is_paused.ensures) (sym c.if-not-is_loaded.ensures))

pub enter-requires-clause-adds : goal.enter-requires-clause-adds
enter-requires-clause-adds c = grind (arith, due_weaker)

pub returns-in_err-index-clause-answer : goal.returns-in_err-index-clause-answer
returns-in_err-index-clause-answer c =
    let v = c.args.self.now.view in
    refusal (λ turn. Turned turn) v v (Step c.args.ch) NoChannel c.from_residual.result (rw c.in_err-index.ensures.none.0 at c.from_residual.ensures.1)
    (ap (λ (s : Stepped). (reply_of Turned s.0, s.1)) (sym (gone_turn v c.args.ch c.in_err-index.ensures.none.1)))

pub returns-then-is_halted-clause-answer : goal.returns-then-is_halted-clause-answer
returns-then-is_halted-clause-answer c =
    let at = read (goal.at.returns-then-is_halted-clause-answer c).After-index-queue in
    let v = view_of (parts_of c.self.inside) in
    rw (← c.self.view_is) (stepped_so v v c.args.ch Halted (halted_at at (sym c.if-is_halted.ensures)))

pub returns-then-is_paused-clause-answer : goal.returns-then-is_paused-clause-answer
returns-then-is_paused-clause-answer c =
    let at = read (goal.at.returns-then-is_paused-clause-answer c).After-index-queue in
    let v = view_of (parts_of c.self.inside) in
    rw (← c.self.view_is) (stepped_so v v c.args.ch Paused (paused_at at (sym c.if-is_halted.ensures) (sym c.if-is_paused.ensures)))

pub returns-in_default-clause-answer : goal.returns-in_default-clause-answer
returns-in_default-clause-answer c = grind (arith, common_steps)

pub returns-in_default-clause-room : goal.returns-in_default-clause-room
returns-in_default-clause-room c = grind (arith, common_steps)

pub returns-then-not-is_loaded-clause-room : goal.returns-then-not-is_loaded-clause-room
returns-then-not-is_loaded-clause-room c = grind (arith, common_steps)

pub returns-in-Wfe-clause-room : goal.returns-in-Wfe-clause-room
returns-in-Wfe-clause-room c = grind (arith, common_steps)

pub returns-in-Sev-clause-room : goal.returns-in-Sev-clause-room
returns-in-Sev-clause-room c = grind (arith, common_steps)

pub returns-in-End-clause-room : goal.returns-in-End-clause-room
returns-in-End-clause-room c = grind (arith, common_steps)

pub returns-in-None : goal.returns-in-None
returns-in-None c = grind (arith, common_steps)

pub returns-in-Some-execute_other : goal.returns-in-Some-execute_other
returns-in-Some-execute_other c = grind (arith, common_steps)
