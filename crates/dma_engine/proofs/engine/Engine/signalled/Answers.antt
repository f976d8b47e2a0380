use Rattle.std.proofs.Common.{◌≡◌, ◌∙◌, Option, ap, arith, sym}
use Rattle.std.specs.Prelude.{is_some, unwrap_or}
use Rattle.dma_mem.specs.Places.{Descriptor}
use Rattle.dma_engine.specs.{inner.Inside.parts_of, inner.Holds.state_in}
use Rattle.dma_engine.proofs.Fronts.{not_signalled, running, signalled_end, Runs}
use Rattle.dma_engine.proofs.{Queues.holds_at, StartsAndEnds.front_with_cookie_law, StepCases.ahead_member, engine.Engine.signalled.Goals.After-next}
use Rattle.dma_engine.proofs.StepCases.{ahead_known}
use Rattle.dma_engine.proofs.engine.Engine.signalled.Goals as goal

-- what runs on the channel
it : (c : After-next) → Runs (parts_of c.self.inside) c.args.ch c.index-queue.result.now
it c =
    running (holds_at (parts_of c.self.inside) c.self.invariant c.args.ch c.index-queue.result.now
    (omega (arith, c.if-index-len.false, c.from-index.ensures, c.len.ensures, c.self.inside.queues.ok.0))
    (rw c.from-index.ensures at c.index-queue.ensures)) (sym c.if-not-is_loaded.ensures)

pub unreachable-requires : goal.unreachable-requires
unreachable-requires c = c.in_default.not-Ok _ (ahead_known (it (goal.at.unreachable-requires c).After-next) c.next.ensures)

pub returns-in_default-insn : goal.returns-in_default-insn
returns-in_default-insn c =
    let p = parts_of c.self.inside in
    let r = it (goal.at.returns-in_default-insn c).After-next in
    let next = ahead_member r c.next.ensures c.in-Ok.is in
    rw (← c.self.view_is) (sym
    (not_signalled (state_in p c.args.ch) r.transfer _ r.known
    (λ e. c.in_default-insn.not-End (c.insn.ensures ∙ sym next ∙ e))))

pub returns-in-Some : goal.returns-in-Some
returns-in-Some c =
    let u : Descriptor = c.in-Some.transfer.now in
    let r = it (goal.at.returns-in-Some c).After-next in
    let next = ahead_member r c.next.ensures c.in-Ok.is in
    let known = front_with_cookie_law (state_in (parts_of c.self.inside) c.args.ch) (rw (c.from-index.ensures, ← c.self.view_is) at c.in-Some.ensures) in
    let same : is_some u.signal ≡ is_some r.transfer.signal = ap (λ (o : Option Descriptor). is_some (unwrap_or o u).signal) (sym known.0 ∙ r.issued) in
    rw (← c.self.view_is) (c.is_some.ensures ∙ ap is_some c.signal.ensures ∙ same ∙ sym (signalled_end r (next ∙ sym c.insn.ensures ∙ c.in-End.is)))

pub returns-in-None : goal.returns-in-None
returns-in-None c =
    let r = it (goal.at.returns-in-None c).After-next in
    let none = rw (c.from-index.ensures, ← c.self.view_is, r.issued) at c.in-None.ensures in
    absurd (cc none)
