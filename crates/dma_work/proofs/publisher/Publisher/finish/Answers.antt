use Rattle.std.proofs.Common.{◌≡◌, ◌∙◌, ◌++◌, ℕ, List, [], ◌∷◌, None, ap, arith, inl, inr, length-append, subst, sym, true}
use Rattle.std.specs.Prelude.{Err, Ok, length, nat_lt}
use Rattle.dma_mem.specs.declared.call.Call.TheVariants.{Step}
use Rattle.dma_engine.specs.declared.fault.EngineFault.{EngineFault}
use Rattle.dma_engine.specs.declared.fault.EngineFault.TheVariants.{NoMemory}
use Rattle.dma_engine.specs.Answer.{StepAnswers, takes_memory}
use Rattle.dma_engine.specs.Ticks.{Finished, Tick, ticks_of}
use Rattle.dma_engine.specs.{Turn.Stepped, Turn.ends, Turn.turn, View.View, View.schedule_at}
use Rattle.dma_engine.proofs.{AnswerCounts.ends_as_reported, AnswerCounts.steps_add, Turns.turn_cases}
use Rattle.dma_work.specs.inner.Published.{Publishes, list_with}
use Rattle.dma_work.proofs.Desks.{acted_next, ended}
use Rattle.dma_work.proofs.publisher.Publisher.finish.Goals as goal

AddsAtEnd : View → Stepped → Type 0
AddsAtEnd v s = ends s.0 ≡ true → nat_lt (length v.history) (length s.1.history) ≡ true

-- a step that finishes a cookie takes memory
end_takes : (v : View) (ch : ℕ) → ends (turn v ch).0 ≡ true → takes_memory v (Step ch) ≡ true
unfolding AddsAtEnd
end_takes v ch over =
    let adds : AddsAtEnd v (turn v ch) = turn_cases v ch (AddsAtEnd v) (record {
      idle = (λ h. cc, λ h. cc, λ h. cc, λ h. cc, λ h. cc, λ _ h. cc, λ _ h. cc);
      starts = λ _ _ h. cc;
      moves = λ _ _ h. cc;
      passes = λ _ _ _ h. cc;
      signals = λ _ _ _ h. cc;
      ends = λ _ n t how h. grind (arith, length-append);
    }) in
    grind (arith, adds over)

-- and with room for it, memory doesn't run out
end_is_ok : (v w : View) (ch : ℕ) (e : EngineFault) → ends (turn v ch).0 ≡ true → StepAnswers v ch (Err e) w
    → (e ≡ NoMemory → (schedule_at v ch).taken ≡ None) → ⊥
end_is_ok v w ch e over h room = elim (ends_as_reported v w ch (Err e) h) [
  | inl none ↦ let start : (schedule_at v ch).taken ≡ None = room (cc none) in grind arith
  | inr same ↦ cc (same, over)
]

pub unreachable-requires : goal.unreachable-requires
unreachable-requires g c =
    let m = c.make_room.new.self.view in
    let over : ends (turn m c.args.ch).0 ≡ true = ap (λ (u : View). ends (turn u c.args.ch).0) c.make_room.ensures.view ∙ c.requires.ends in
    end_is_ok m c.rare_step.new.self.view c.args.ch c.in_default.field-0 over c.in_default.ensures.answer (c.in_default.ensures.room (grind arith))

pub returns-then-is_err-clause-answer : goal.returns-then-is_err-clause-answer
returns-then-is_err-clause-answer g c = (end_takes c.args.engine.now.view c.args.ch c.requires.ends, c.make_room.ensures.view)

pub publish-requires-clause-acted : goal.publish-requires-clause-acted
publish-requires-clause-acted g c =
    let m = c.make_room.new.self.view in
    let w = c.rare_step.new.self.view in
    let ch = c.args.ch in
    let same = c.make_room.ensures.view in
    let over : ends (turn m ch).0 ≡ true = ap (λ (u : View). ends (turn u ch).0) same ∙ c.requires.ends in
    let h = c.in-Ok.ensures.answer in
    let more = (steps_add m w ch (Ok c.in-Ok.turn) h).ticks ∙ ap (λ l. ticks_of m.history ++ l) (ended m w ch c.in-Ok.turn over h) in
    acted_next c.args.self.now c.ready.new.self c.args.engine.now.view m w c.new-tick.result (Finished ch 1) same more c.new-tick.ensures
    c.ready.ensures.kept c.requires.shown

pub returns-clause-answer : goal.returns-clause-answer
returns-clause-answer g c =
    subst (λ (v : View). StepAnswers v c.args.ch (Ok c.in-Ok.turn) c.rare_step.new.self.view) c.make_room.ensures.view c.in-Ok.ensures.answer

pub returns-clause-published : goal.returns-clause-published
returns-clause-published g c =
    let p = c.args.self.now in
    let q = c.publish.new.self in
    let m = c.make_room.new.self.view in
    let ch = c.args.ch in
    let over : ends (turn m ch).0 ≡ true = ap (λ (u : View). ends (turn u ch).0) c.make_room.ensures.view ∙ c.requires.ends in
    let all : Publishes p (Finished ch 1 ∷ []) q = record {
      shown = c.publish.ensures.shown ∙ ap (λ x. list_with x c.new-tick.result) c.ready.ensures.kept.0 ∙ ap (list_with p.shown) c.new-tick.ensures;
      pending = c.publish.ensures.pending;
      before = c.publish.ensures.before ∙ c.ready.ensures.kept.1;
    } in
    subst (λ (l : List Tick). Publishes p l q) (sym (ended m c.rare_step.new.self.view ch c.in-Ok.turn over c.in-Ok.ensures.answer)) all
