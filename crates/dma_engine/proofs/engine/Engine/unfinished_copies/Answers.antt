use Rattle.std.proofs.Common.{◌≡◌, ◌-◌, ◌+◌, ◌<◌, ◌∙◌, ap, sym, arith, length, take, drop, ◌++◌, ◌∷◌, []}
use Rattle.std.specs.Prelude.{slice_index_or}
use Rattle.std.proofs.lemmas.List.{take_more, get_or-drop, length-drop}
use Rattle.dma_engine.specs.{inner.Inside.parts_of, Object.no_transfer, inner.Holds.state_in}
use Rattle.dma_engine.proofs.Queues.{holds_at, many_queues}
use Rattle.dma_engine.proofs.engine.Engine.unfinished_copies.Goals as goal

pub loop-n-preserved : goal.loop-n-preserved
loop-n-preserved c =
    let p = parts_of c.self.inside in
    let n = c.loop-n.n in
    let first = length c.outcomes-first.result.now in
    let ts = (state_in p c.args.index).submitted in
    let less : c.args.index < length p.queues = omega (arith, (rw (← c.self.view_is) at c.requires), many_queues p c.self.invariant) in
    let at = holds_at p c.self.invariant c.args.index c.index-queue.result.now less c.index-queue.ensures in
    let so_far = rw (← c.self.view_is) at c.loop-n.invariant in
    let found = rw (← c.self.view_is) at c.transfer.ensures in
    let back : first + (n - first) ≡ n = omega (arith, c.loop-n.auto.n) in
    let next : n + 1 - first ≡ (n - first) + 1 = omega (arith, c.loop-n.auto.n) in
    let within : n - first < length (drop first ts) = grind (arith, length-drop) in
    let here : slice_index_or (drop first ts) (n - first) no_transfer ≡ c.transfer.result.now = get_or-drop first ts (n - first) no_transfer
    ∙ ap (λ i. slice_index_or ts i no_transfer) back ∙ sym found in
    rw (← c.self.view_is, next)
    (rw (c.in_ok-push.ensures.items, c.in_ok-try_copy.ensures, so_far)
    (sym (take_more (drop first ts) (n - first) no_transfer within ∙ ap (λ x. take (n - first) (drop first ts) ++ x ∷ []) here)))
