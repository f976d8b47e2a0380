use Rattle.std.proofs.Common.{◌≡◌, ◌+◌, ◌<◌, ◌∙◌, ap, sym, arith, true, false}
use Rattle.dma_mem.specs.Places.{lies_below}
use Rattle.dma_engine.specs.View.{channels, size, state_at}
use Rattle.dma_engine.specs.{inner.Holds.view_of, inner.Inside.parts_of, Object.used}
use Rattle.dma_engine.proofs.{CallCases.check_fine, CallCases.check_out, CallCases.check_spent, Queues.HoldsAt, Queues.seen, Queues.holds_there}
use Rattle.dma_engine.proofs.{Sizes.size_is, engine.Engine.check_submit.Goals.After-index}
use Rattle.dma_engine.proofs.engine.Engine.check_submit.Goals as goal

pub returns-then-not-lies_below-clause-checked : goal.returns-then-not-lies_below-clause-checked
returns-then-not-lies_below-clause-checked c =
    let p = parts_of c.self.inside in
    let v = c.args.self.now.view in
    let is : view_of p ≡ v = seen c.self.view_is in
    let there : c.args.ch < channels v = c.in_ok-index.ensures.there.1 in
    let out : lies_below c.args.transfer.now (size v) ≡ false = ap (lies_below c.args.transfer.now) (sym (size_is p c.self.invariant ∙ ap size is))
    ∙ sym c.if-not-lies_below.ensures.below in
    check_out v c.args.ch (used (state_at v c.args.ch) + 1) c.args.transfer.now there out

-- the queue that is read
read : (c : After-index) → HoldsAt (parts_of c.self.inside) c.in_ok-index.index c.index.result.now
read c = holds_there c.self.invariant (seen c.self.view_is) c.in_ok-index.ensures.there c.index.ensures

pub returns-then-given-ge-LAST_COOKIE-clause-checked : goal.returns-then-given-ge-LAST_COOKIE-clause-checked
returns-then-given-ge-LAST_COOKIE-clause-checked c =
    let p = parts_of c.self.inside in
    let at = read (goal.at.returns-then-given-ge-LAST_COOKIE-clause-checked c).After-index in
    let below : lies_below c.args.transfer.now (size (view_of p)) ≡ true = ap (lies_below c.args.transfer.now) (sym (size_is p c.self.invariant))
    ∙ sym c.if-not-lies_below.ensures.below in
    rw (← c.self.view_is, ← c.in_ok-index.ensures.there.0)
    (check_spent (view_of p) c.in_ok-index.index _ c.args.transfer.now at.there below
    (omega (arith, at.tied.given, c.if-given-ge-LAST_COOKIE.true)))

pub returns-clause-checked : goal.returns-clause-checked
returns-clause-checked c =
    let p = parts_of c.self.inside in
    let at = read (goal.at.returns-clause-checked c).After-index in
    let below : lies_below c.args.transfer.now (size (view_of p)) ≡ true = ap (lies_below c.args.transfer.now) (sym (size_is p c.self.invariant))
    ∙ sym c.if-not-lies_below.ensures.below in
    rw (← c.self.view_is, at.tied.given, ← c.in_ok-index.ensures.there.0)
    (check_fine (view_of p) c.in_ok-index.index _ c.args.transfer.now at.there below
    (omega (arith, at.tied.given, c.if-given-ge-LAST_COOKIE.false)))
