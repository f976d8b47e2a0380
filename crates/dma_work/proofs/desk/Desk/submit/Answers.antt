use Rattle.std.proofs.Common.{◌≡◌, ◌∙◌, ap, arith, refl, subst, sym}
use Rattle.dma_mem.specs.declared.call.Call.TheVariants.{Submit}
use Rattle.dma_engine.specs.{declared.call.Reply.TheVariants.Cookie, Answer.CallAnswers, Ticks.Submitted, View.View}
use Rattle.dma_engine.proofs.{CallLists.answers_extend, CookieCounts.submits_add}
use Rattle.dma_work.specs.{Desk.DeskState, inner.DeskKept.IsKept, inner.Published.PublishedList, inner.Published.SnapshotState}
use Rattle.dma_work.proofs.{Desks.acted_next, Desks.given_in, Desks.kept_next, desk.Desk.submit.Given.Over}
use Rattle.dma_work.proofs.desk.Desk.submit.Goals as goal

pub publish-requires-clause-acted : goal.publish-requires-clause-acted
publish-requires-clause-acted g c =
    let m = c.make_room.new.self in
    let w = c.submit.new.self in
    let s = submits_add m.view w.view c.args.ch c.in-Ok.cookie c.args.transfer c.in-Ok.ensures.answer in
    acted_next c.self.inside.publisher c.ready.new.self c.self.inside.engine.view m.view w.view c.new-given.result (Submitted c.args.ch)
    c.make_room.ensures.view s.0.ticks c.new-given.ensures c.ready.ensures.kept (ap (λ (x : PublishedList). x.ticks) (sym c.self.invariant.shown))

kept : (g : Over) (c : goal.After-new-ticket g)
    → IsKept g.N.DeskName.opening g.N.DeskName.base g.N.DeskName.log c.submit.new.self c.publish.new.self c.self.inside.book
kept g c =
    let m = c.make_room.new.self in
    let w = c.submit.new.self in
    let ch = c.args.ch in
    let h = c.in-Ok.ensures.answer in
    let s = submits_add m.view w.view ch c.in-Ok.cookie c.args.transfer h in
    let base = (answers_extend m.view w.view (Submit ch c.args.transfer) (Cookie c.in-Ok.cookie) refl h).0 in
    kept_next c.self.invariant m w c.ready.new.self c.publish.new.self c.self.inside.book c.new-given.result (Submitted ch) 0 0
    c.make_room.ensures.view s.0 base c.new-given.ensures c.ready.ensures.kept c.publish.ensures (omega arith) (omega arith)

listed : (g : Over) (c : goal.After-new-ticket g) → c.new-ticket.result ≡ c.publish.new.self.shown.ticks
listed g c =
    c.new-ticket.ensures ∙ ap (λ (x : SnapshotState). x.ticks) c.list.ensures

pub invariant_of-result : goal.invariant_of-result
invariant_of-result g c =
    record {
      used = given_in (kept g c) c.make_room.new.self.view c.args.ch c.in-Ok.cookie c.args.transfer c.new-ticket.result c.in-Ok.ensures.answer
          c.facts.ensures.sound (listed g c);
    }

pub invariant_of-self-2 : goal.invariant_of-self-2
invariant_of-self-2 g c = kept g c.before

pub returns-clause-ticket : goal.returns-clause-ticket
returns-clause-ticket g c = listed g c.before ∙ ap (λ (x : PublishedList). x.ticks) (kept g c.before).shown

pub returns-clause-ok : goal.returns-clause-ok
returns-clause-ok g c =
    let w = c.submit.new.self.view in
    let call = Submit c.args.ch c.args.transfer in
    let reply = Cookie c.in-Ok.cookie in (
      refl,
      subst (λ (d : DeskState). CallAnswers d.engine.view call reply w) c.self.view_is
          (subst (λ (v : View). CallAnswers v call reply w) c.make_room.ensures.view c.in-Ok.ensures.answer),
    )
