use Rattle.std.proofs.Common.{sym, arith}
use Rattle.std.proofs.lemmas.Grind.{common_steps}
use Rattle.dma_engine.specs.{inner.Due.IsNext, inner.Inside.parts_of}
use Rattle.dma_engine.proofs.{Fronts.running, Queues.holds_at, StepCases.ahead_member, StepCases.make_due, Fronts.Runs, engine.Engine.due.Goals.After-next}
use Rattle.dma_engine.proofs.StepCases.{ahead_known}
use Rattle.dma_engine.proofs.engine.Engine.due.Goals as goal

-- what runs on the channel
it : (c : After-next) → Runs (parts_of c.self.inside) c.args.ch c.index-queue.result.now
it c =
    running (holds_at (parts_of c.self.inside) c.self.invariant c.args.ch c.index-queue.result.now
    (omega (arith, c.if-index-len.false, c.from-index.ensures, c.len.ensures, c.self.inside.queues.ok.0))
    (rw c.from-index.ensures at c.index-queue.ensures)) (sym c.if-not-is_loaded.ensures)

pub unreachable-requires : goal.unreachable-requires
unreachable-requires c = c.in_default.not-Ok _ (ahead_known (it (goal.at.unreachable-requires c).After-next) c.next.ensures)

pub returns-clause-due : goal.returns-clause-due
returns-clause-due c =
    let r = it (goal.at.returns-clause-due c).After-next in
    let next = ahead_member r c.next.ensures c.in-Ok.is in
    rw (← c.self.view_is) (make_due (IsNext c.in-Ok.next) (sym c.if-is_paused.ensures) (omega (arith, c.if-self-ge18446744073709551615.false)) r next)

pub returns-then-index-len-clause-none : goal.returns-then-index-len-clause-none
returns-then-index-len-clause-none c = grind (arith, common_steps)

pub returns-then-is_halted-clause-none : goal.returns-then-is_halted-clause-none
returns-then-is_halted-clause-none c = grind (arith, common_steps)

pub returns-clause-none : goal.returns-clause-none
returns-clause-none c = grind (arith, common_steps)
