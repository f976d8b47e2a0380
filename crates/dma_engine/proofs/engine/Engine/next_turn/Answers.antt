use Rattle.std.proofs.Common.{◌≡◌, ◌∙◌, arith, refl, sym, ap}
use Rattle.dma_engine.specs.{inner.Inside.parts_of, Turn.Stepped}
use Rattle.dma_engine.proofs.{StepCases.spent_turn, Queues.HoldsAt, Queues.many_queues, Queues.holds_at, engine.Engine.next_turn.Goals.After-index-queue}
use Rattle.dma_engine.specs.declared.{turn.Turn.Turn, fault.EngineFault.EngineFault, fault.EngineFault.TheVariants.NoChannel}
use Rattle.std.specs.Prelude.{IsErrAnd, Result, Ok, Err}
use Rattle.dma_engine.proofs.EarlyTurns.{gone_turn, halted_at, paused_at, may_start}
use Rattle.dma_engine.proofs.engine.Engine.next_turn.Goals as goal

-- the queue that is read
read : (c : After-index-queue) → HoldsAt (parts_of c.self.inside) c.args.ch c.index-queue.result.now
read c =
    let p = parts_of c.self.inside in
    let there = rw (← c.self.view_is) at c.in_ok-index.ensures.there in
    holds_at p c.self.invariant c.args.ch c.index-queue.result.now (omega (arith, there.1, many_queues p c.self.invariant))
    (rw there.0 at c.index-queue.ensures)

pub returns-then-is_halted : goal.returns-then-is_halted
returns-then-is_halted c =
    let at = read (goal.at.returns-then-is_halted c).After-index-queue in
    rw (← c.self.view_is) (sym (ap (λ (s : Stepped). s.0) (halted_at at (sym c.if-is_halted.ensures))))

pub returns-then-is_paused : goal.returns-then-is_paused
returns-then-is_paused c =
    let at = read (goal.at.returns-then-is_paused c).After-index-queue in
    rw (← c.self.view_is) (sym (ap (λ (s : Stepped). s.0) (paused_at at (sym c.if-is_halted.ensures) (sym c.if-is_paused.ensures))))

pub next_start-requires : goal.next_start-requires
next_start-requires c =
    let at = read (goal.at.next_start-requires c).After-index-queue in
    rw (← c.self.view_is) (may_start at (sym c.if-is_halted.ensures) (sym c.if-is_paused.ensures) (sym c.if-not-is_loaded.ensures))

pub returns-in_default : goal.returns-in_default
returns-in_default c =
    let at = read (goal.at.returns-in_default c).After-index-queue in
    let few = rw (← c.self.view_is) at c.facts.ensures.steps in
    let none = rw (← c.self.view_is) at c.in_default.ensures.none in
    rw (← c.self.view_is) (sym (spent_turn at (sym c.if-is_paused.ensures) (sym c.if-not-is_loaded.ensures) few (none refl)))

refused : (r : Result Turn EngineFault) (fault : EngineFault) → IsErrAnd r (λ e. e ≡ fault) → r ≡ Err fault
refused (Ok turn) fault h = absurd h
refused (Err e) fault h = ap (λ f. Err f) h

pub returns-in_err-index : goal.returns-in_err-index
returns-in_err-index c =
    refused c.from_residual.result NoChannel (rw c.in_err-index.ensures.none.0 at c.from_residual.ensures.1)
    ∙ sym (ap (λ (s : Stepped). s.0) (gone_turn c.args.self.now.view c.args.ch c.in_err-index.ensures.none.1))
