use Rattle.std.proofs.Common.{◌≡◌, ◌≢◌, ◌+◌, ◌∙◌, ℕ, None, ap, arith, inl, inr, length-append, refl, subst, sym, true}
use Rattle.std.specs.Prelude.{Option}
use Rattle.dma_mem.specs.declared.call.Call.TheVariants.{Terminate}
use Rattle.dma_engine.specs.{declared.call.Reply.TheVariants.Count, declared.call.Reply.TheVariants.Refused}
use Rattle.dma_engine.specs.{Object.finished_all, Object.unfinished, Ticks.Finished}
use Rattle.dma_engine.specs.{declared.fault.EngineFault.EngineFault, declared.fault.EngineFault.TheVariants.NoMemory, View.View, View.object_of, View.state_at}
use Rattle.dma_engine.specs.Answer.{CallAnswers, channel_fault, takes_memory, terminated, unless}
use Rattle.dma_engine.proofs.{CallLists.answers_extend, CookieCounts.terminates_add, Turns.answer_is}
use Rattle.dma_work.specs.{declared.worker.Totals.Totals, Desk.DeskState, inner.DeskKept.IsKept, inner.Published.PublishedList, inner.Published.SnapshotState}
use Rattle.dma_work.proofs.{Desks.acted_next, Desks.finished_in, Desks.kept_next, Desks.kept_still, Desks.publishes_none, desk.Desk.terminate.Given.Over}
use Rattle.dma_work.proofs.desk.Desk.terminate.Goals as goal

-- a terminate takes memory
takes : (v : View) (ch : ℕ) → channel_fault v ch ≡ None → takes_memory v (Terminate ch) ≡ true
takes v ch there = rw there (grind (arith, length-append))

is_accepted : (f : Option EngineFault) (v w x : View) (e : EngineFault) (count : ℕ) → f ≡ None → (Refused e, w) ≡ unless f v (Count count, x) → ⊥
is_accepted f v w x e count there is = grind arith

-- and with room for it, memory doesn't run out
is_ok : (v w : View) (ch : ℕ) (e : EngineFault) → channel_fault v ch ≡ None → e ≢ NoMemory → CallAnswers v (Terminate ch) (Refused e) w → ⊥
is_ok v w ch e there room h = elim (answer_is v w (Terminate ch) (Refused e) h) [
  | inl none ↦ room (cc (none.0))
  | inr is ↦ is_accepted (channel_fault v ch) v w (terminated v ch) e (unfinished (state_at v ch)) there is
]

pub invariant_of-self : goal.invariant_of-self
invariant_of-self g c =
    let p = c.self.inside.publisher in
    kept_still c.self.invariant c.make_room.new.self p c.make_room.ensures.view (publishes_none p p (refl, refl) c.self.invariant.pending)

pub invariant_of-self-then-not-ready : goal.invariant_of-self-then-not-ready
invariant_of-self-then-not-ready g c =
    kept_still c.self.invariant c.make_room.new.self c.ready.new.self c.make_room.ensures.view
    (publishes_none c.self.inside.publisher c.ready.new.self c.ready.ensures.kept (c.ready.ensures.none c.if-not-ready.true))

pub returns-then-not-ready-clause-err : goal.returns-then-not-ready-clause-err
returns-then-not-ready-clause-err g c =
    subst (λ (d : DeskState). CallAnswers d.engine.view (Terminate c.args.ch) (Refused NoMemory) c.make_room.new.self.view) c.self.view_is
    (takes c.self.inside.engine.view c.args.ch c.in_ok-make_room.ensures.answer, c.make_room.ensures.view)

pub unreachable-requires : goal.unreachable-requires
unreachable-requires g c =
    is_ok c.make_room.new.self.view c.terminate.new.self.view c.args.ch c.in_default.field-0
    (ap (λ (v : View). channel_fault v c.args.ch) c.make_room.ensures.view ∙ c.in_ok-make_room.ensures.answer)
    (c.in_default.ensures.room c.in_ok-make_room.ensures.made) c.in_default.ensures.answer

pub overflow_add-self : goal.overflow_add-self
overflow_add-self g c =
    let m = c.make_room.new.self.view in
    let s = terminates_add m c.terminate.new.self.view c.args.ch c.in-Ok.count c.in-Ok.ensures.answer in
    omega (
      arith,
      c.self.invariant.counts.finished,
      s.0.finished,
      c.from.ensures,
      ap (λ (u : View). finished_all (object_of u)) c.make_room.ensures.view,
      c.facts.ensures.finished,
    )

pub publish-requires-clause-acted : goal.publish-requires-clause-acted
publish-requires-clause-acted g c =
    let m = c.make_room.new.self in
    let w = c.terminate.new.self in
    let s = terminates_add m.view w.view c.args.ch c.in-Ok.count c.in-Ok.ensures.answer in
    let tick : c.new-ended.result ≡ Finished c.args.ch c.in-Ok.count = c.new-ended.ensures ∙ ap (λ n. Finished c.args.ch n) (c.unfinished.ensures ∙ sym s.2) in
    acted_next c.self.inside.publisher c.ready.new.self c.self.inside.engine.view m.view w.view c.new-ended.result (Finished c.args.ch c.in-Ok.count)
    c.make_room.ensures.view s.0.ticks tick c.ready.ensures.kept (ap (λ (x : PublishedList). x.ticks) (sym c.self.invariant.shown))

kept : (g : Over) (c : goal.After-used-through g)
    → IsKept g.N.DeskName.opening g.N.DeskName.base g.N.DeskName.log c.terminate.new.self c.publish.new.self
    (record (c.self.inside.book) { terminated = c.self.inside.book.terminated + c.from.result })
kept g c =
    let m = c.make_room.new.self in
    let w = c.terminate.new.self in
    let ch = c.args.ch in
    let count = c.in-Ok.count in
    let h = c.in-Ok.ensures.answer in
    let s = terminates_add m.view w.view ch count h in
    let base = (answers_extend m.view w.view (Terminate ch) (Count count) refl h).0 in
    let tick : c.new-ended.result ≡ Finished ch count = c.new-ended.ensures ∙ ap (λ n. Finished ch n) (c.unfinished.ensures ∙ sym s.2) in
    let book : Totals = record (c.self.inside.book) { terminated = c.self.inside.book.terminated + c.from.result } in
    kept_next c.self.invariant m w c.ready.new.self c.publish.new.self book c.new-ended.result (Finished ch count) 0 count
    c.make_room.ensures.view s.0 base tick c.ready.ensures.kept c.publish.ensures (omega arith) (omega (arith, c.from.ensures))

listed : (g : Over) (c : goal.After-used-through g) → c.new-last.result ≡ c.publish.new.self.shown.ticks
listed g c =
    c.new-last.ensures ∙ ap (λ (x : SnapshotState). x.ticks) c.list.ensures

pub invariant_of-result : goal.invariant_of-result
invariant_of-result g c =
    record {
      finished = finished_in (kept g c) c.make_room.new.self.view c.args.ch c.in-Ok.count c.used-through.result c.new-last.result
          c.in-Ok.ensures.answer c.facts.ensures.sound (listed g c) c.used-through.ensures;
    }

pub invariant_of-self-2 : goal.invariant_of-self-2
invariant_of-self-2 g c = kept g c.before

pub returns-clause-ticket : goal.returns-clause-ticket
returns-clause-ticket g c = listed g c.before ∙ ap (λ (x : PublishedList). x.ticks) (kept g c.before).shown

pub returns-clause-ok : goal.returns-clause-ok
returns-clause-ok g c =
    let w = c.terminate.new.self.view in
    let reply = Count c.in-Ok.count in (
      refl,
      subst (λ (d : DeskState). CallAnswers d.engine.view (Terminate c.args.ch) reply w) c.self.view_is
          (subst (λ (v : View). CallAnswers v (Terminate c.args.ch) reply w) c.make_room.ensures.view c.in-Ok.ensures.answer),
    )
