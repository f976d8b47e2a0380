use Rattle.std.proofs.Common.{◌≡◌, ◌≢◌, ◌+◌, false, sym, refl}
use Rattle.std.specs.Prelude.{◌==◌, nat_lt}
use Rattle.std.proofs.lemmas.Bool.{ltb-false, ne_eqb}
use Rattle.dma_mem.specs.Places.{end_of_addresses}
use Rattle.dma_mem.specs.{declared.call.Call.TheVariants.Mark, declared.marks.MarkKind.MarkKind, declared.segment.Segment.Segment}
use Rattle.dma_engine.specs.{Answer.answer, Turn.with_entry, View.View, inner.Inside.parts_of, inner.Holds.view_of}
use Rattle.dma_engine.specs.declared.{call.Reply.TheVariants.Done, entry.Entry.TheVariants.Marked, fault.EngineFault.TheVariants.NoMemory}
use Rattle.dma_engine.proofs.{CallCases.refusal, CallCases.starved, Entries.holds_marked}
use Rattle.dma_engine.proofs.engine.Engine.mark.Goals as goal

pub invariant_of-self-2 : goal.invariant_of-self-2
invariant_of-self-2 c =
    rw (c.push_reserved.ensures.items, c.reserve.ensures.items, c.in_ok-add.ensures.ok)
    (holds_marked (parts_of c.self.inside) c.args.kind c.args.segment c.self.invariant c.if-segment-eq0.false
    (ltb-false end_of_addresses (c.args.segment.addr + c.args.segment.len) (sym c.if-wraps.ensures)))

mark_answer : (v : View) (kind : MarkKind) (s : Segment) → s.len ≢ 0 → nat_lt end_of_addresses (s.addr + s.len) ≡ false
    → answer v (Mark kind s) ≡ (Done, with_entry v (Marked kind s))
mark_answer v kind s some fits = let e : (s.len == 0) ≡ false = ne_eqb _ _ some in rw (e, fits) refl

pub returns-clause-answer : goal.returns-clause-answer
returns-clause-answer c =
    rw (← c.self.view_is, c.push_reserved.ensures.items, c.reserve.ensures.items)
    (sym (mark_answer (view_of (parts_of c.self.inside)) c.args.kind c.args.segment c.if-segment-eq0.false (sym c.if-wraps.ensures)))

pub returns-in_err-reserve-clause-answer : goal.returns-in_err-reserve-clause-answer
returns-in_err-reserve-clause-answer c =
    let v = view_of (parts_of c.self.inside) in
    let call = Mark c.args.kind c.args.segment in
    rw (← c.self.view_is, c.reserve.ensures.items)
    (refusal (λ _. Done) v v call NoMemory c.from_residual.result c.from_residual.ensures.1
    (starved v call Done _ (Marked c.args.kind c.args.segment)
    (mark_answer v c.args.kind c.args.segment c.if-segment-eq0.false (sym c.if-wraps.ensures)) refl))

pub returns-in_err-add-clause-answer : goal.returns-in_err-add-clause-answer
returns-in_err-add-clause-answer c =
    let v = view_of (parts_of c.self.inside) in
    let call = Mark c.args.kind c.args.segment in
    rw (← c.self.view_is, c.reserve.ensures.items)
    (refusal (λ _. Done) v v call NoMemory c.from_residual-in_err-add.result c.from_residual-in_err-add.ensures.1
    (starved v call Done _ (Marked c.args.kind c.args.segment)
    (mark_answer v c.args.kind c.args.segment c.if-segment-eq0.false (sym c.if-wraps.ensures)) refl))

pub invariant_of-self-in_err-add : goal.invariant_of-self-in_err-add
invariant_of-self-in_err-add c = rw (c.reserve.ensures.items, c.in_err-add.ensures.err) c.self.invariant
