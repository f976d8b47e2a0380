use Rattle.std.proofs.Common.{◌≡◌, ◌∙◌, List, ap, arith, refl, sym, subst}
use Rattle.dma_work.specs.{Desk.DeskState, Desk.published, Known.Known, Ticks.StartsWith, Ticks.status_after}
use Rattle.dma_work.specs.inner.Published.{PublishedList, SnapshotState}
use Rattle.dma_engine.specs.{Answer.status_in, Ticks.Tick}
use base.Growing.{prefix_trans}
use Rattle.dma_work.proofs.{Beginnings.prefix_whole, Desks.board_status}
use Rattle.dma_work.proofs.desk.Desk.status_by_reader.Goals as goal

-- what a reader has learnt and seen after a look, which changes only what it has seen
learns : (ticket shown : List Tick) (k m : Known) → StartsWith k.learnt ticket → ticket ≡ shown → m ≡ record k { seen = m.seen } → StartsWith m.learnt shown
learns ticket shown k m begins is same =
    subst (λ l. StartsWith m.learnt l) is (subst (λ (x : Known). StartsWith x.learnt ticket) (sym same) begins)

later : (k m n : Known) → m ≡ record k { learnt = m.learnt } → StartsWith n.seen m.seen → StartsWith n.seen k.seen
later k m n same begins = subst (λ (x : Known). StartsWith n.seen x.seen) same begins

pub returns-then-seen-ticks-clause-seen : goal.returns-then-seen-ticks-clause-seen
returns-then-seen-ticks-clause-seen g c =
    let seen = c.status_and_len.new.self.seen in
    let ticket = c.new-ticket.result in
    let listed : ticket ≡ published c.args.self.now =
    c.new-ticket.ensures ∙ ap (λ (x : SnapshotState). x.ticks) c.list.ensures ∙ ap (λ (x : PublishedList). x.ticks) c.self.invariant.shown
    ∙ ap published c.self.view_is in
    let begins : StartsWith seen ticket = prefix_trans ticket c.learn.new.self.learnt seen c.learn.ensures.ticket c.in_ok-status.ensures.covers in
    sym (prefix_whole ticket seen begins (omega (arith, c.in_ok-status.ensures.len, c.if-seen-ticks.true, c.len-ticks.ensures))) ∙ listed

pub returns-then-seen-ticks-clause-status : goal.returns-then-seen-ticks-clause-status
returns-then-seen-ticks-clause-status g c =
    let base = g.N.DeskName.base in
    let same : c.learn.new.self.base ≡ base = ap (λ (k : Known). k.base) c.learn.ensures.seen ∙ sym c.requires.1 in
    let seen = returns-then-seen-ticks-clause-seen g c in
    let inside = c.self.inside in
    c.in_ok-status.ensures.some
    ∙ ap (λ b. status_after b c.status_and_len.new.self.seen c.args.ch c.args.cookie) same
    ∙ ap (λ l. status_after base l c.args.ch c.args.cookie) seen
    ∙ subst (λ (d : DeskState). status_after base (published d) c.args.ch c.args.cookie ≡ status_in d.engine.view c.args.ch c.args.cookie) c.self.view_is
    (board_status base inside.publisher.before inside.engine.view c.self.invariant.opens c.facts.ensures.sound c.args.ch c.args.cookie)

pub returns-then-seen-ticks-clause-learnt : goal.returns-then-seen-ticks-clause-learnt
returns-then-seen-ticks-clause-learnt g c =
    subst (λ l. StartsWith l c.args.reader.now.learnt) (returns-then-seen-ticks-clause-seen g c)
    (prefix_trans c.args.reader.now.learnt c.learn.new.self.learnt c.status_and_len.new.self.seen c.learn.ensures.before c.in_ok-status.ensures.covers)

pub returns-then-seen-ticks-clause-learns : goal.returns-then-seen-ticks-clause-learns
returns-then-seen-ticks-clause-learns g c =
    learns c.new-ticket.result (published c.args.self.now) c.learn.new.self c.status_and_len.new.self c.learn.ensures.ticket
    (c.new-ticket.ensures ∙ ap (λ (x : SnapshotState). x.ticks) c.list.ensures ∙ ap (λ (x : PublishedList). x.ticks) c.self.invariant.shown
    ∙ ap published c.self.view_is) c.status_and_len.ensures.same

pub returns-then-seen-ticks-clause-keeps : goal.returns-then-seen-ticks-clause-keeps
returns-then-seen-ticks-clause-keeps g c =
    let old = c.args.reader.now.learnt in
    learns old old c.learn.new.self c.status_and_len.new.self c.learn.ensures.before refl c.status_and_len.ensures.same

pub returns-then-seen-ticks-clause-later : goal.returns-then-seen-ticks-clause-later
returns-then-seen-ticks-clause-later g c =
    later c.args.reader.now c.learn.new.self c.status_and_len.new.self c.learn.ensures.seen c.status_and_len.ensures.later

pub returns-else-seen-ticks-clause-learns : goal.returns-else-seen-ticks-clause-learns
returns-else-seen-ticks-clause-learns g c =
    learns c.new-ticket.result (published c.args.self.now) c.learn.new.self c.status_and_len.new.self c.learn.ensures.ticket
    (c.new-ticket.ensures ∙ ap (λ (x : SnapshotState). x.ticks) c.list.ensures ∙ ap (λ (x : PublishedList). x.ticks) c.self.invariant.shown
    ∙ ap published c.self.view_is) c.status_and_len.ensures.same

pub returns-else-seen-ticks-clause-keeps : goal.returns-else-seen-ticks-clause-keeps
returns-else-seen-ticks-clause-keeps g c =
    let old = c.args.reader.now.learnt in
    learns old old c.learn.new.self c.status_and_len.new.self c.learn.ensures.before refl c.status_and_len.ensures.same

pub returns-else-seen-ticks-clause-later : goal.returns-else-seen-ticks-clause-later
returns-else-seen-ticks-clause-later g c =
    later c.args.reader.now c.learn.new.self c.status_and_len.new.self c.learn.ensures.seen c.status_and_len.ensures.later

pub returns-in_err-status-clause-learns : goal.returns-in_err-status-clause-learns
returns-in_err-status-clause-learns g c =
    learns c.new-ticket.result (published c.args.self.now) c.learn.new.self c.status_and_len.new.self c.learn.ensures.ticket
    (c.new-ticket.ensures ∙ ap (λ (x : SnapshotState). x.ticks) c.list.ensures ∙ ap (λ (x : PublishedList). x.ticks) c.self.invariant.shown
    ∙ ap published c.self.view_is) c.status_and_len.ensures.same

pub returns-in_err-status-clause-keeps : goal.returns-in_err-status-clause-keeps
returns-in_err-status-clause-keeps g c =
    let old = c.args.reader.now.learnt in
    learns old old c.learn.new.self c.status_and_len.new.self c.learn.ensures.before refl c.status_and_len.ensures.same

pub returns-in_err-status-clause-later : goal.returns-in_err-status-clause-later
returns-in_err-status-clause-later g c =
    later c.args.reader.now c.learn.new.self c.status_and_len.new.self c.learn.ensures.seen c.status_and_len.ensures.later
