use Rattle.std.proofs.Common.{◌≡◌, ◌∙◌, Some, None, ap, arith}
use Rattle.std.specs.Prelude.{slice_index_or, unwrap_or}
use Rattle.dma_engine.specs.{inner.Found.transfer_at, inner.Inside.parts_of, Object.channel, Object.no_transfer, View.EngineState, View.state_at}
use Rattle.dma_engine.proofs.{Queues.holds_at, Queues.many_queues, Queues.transfer_found, Sizes.many_channels, Queues.HoldsAt}
use Rattle.dma_engine.proofs.engine.Engine.transfer.Goals.{After-index-queue}
use Rattle.dma_engine.proofs.engine.Engine.transfer.Goals as goal

pub kept-kept-requires : goal.kept-kept-requires
kept-kept-requires c = grind (arith, many_queues, many_channels)

-- the queue that is read
read : (c : After-index-queue) → HoldsAt (parts_of c.self.inside) c.args.index c.index-queue.result.now
read c =
    let p = parts_of c.self.inside in
    holds_at p c.self.invariant c.args.index c.index-queue.result.now
    (omega (arith, (rw (← c.self.view_is) at c.requires.there), many_queues p c.self.invariant)) c.index-queue.ensures

pub transfer-requires : goal.transfer-requires
transfer-requires c =
    rw c.kept-kept.ensures
    (omega (arith, (rw (← c.self.view_is) at c.requires.given), (read (goal.at.transfer-requires c).After-index-queue).tied.many))

pub unreachable-requires : goal.unreachable-requires
unreachable-requires c =
    let p = parts_of c.self.inside in
    let i = c.args.index in
    let q = c.index-queue.result.now in
    let found = transfer_found (read (goal.at.unreachable-requires c).After-index-queue).tied c.args.n (rw (← c.self.view_is) at c.requires.given) in
    let none : transfer_at (channel p.base i).submitted p.history q.indices.items c.args.n ≡ None = grind (arith) in
    absurd (cc (none, found))

pub returns : goal.returns
returns c =
    let p = parts_of c.self.inside in
    let i = c.args.index in
    let q = c.index-queue.result.now in
    let t = c.in-Some.transfer.now in
    let found = transfer_found (read (goal.at.returns c).After-index-queue).tied c.args.n (rw (← c.self.view_is) at c.requires.given) in
    let listed : Some t ≡ transfer_at (channel p.base i).submitted p.history q.indices.items c.args.n = grind (arith) in
    ap (λ o. unwrap_or o t) (listed ∙ found)
    ∙ ap (λ (s : EngineState). slice_index_or (state_at s.view i).submitted c.args.n no_transfer) c.self.view_is
