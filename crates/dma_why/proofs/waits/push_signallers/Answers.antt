use Rattle.std.proofs.Common.{◌≡◌, ◌+◌, ◌-◌, ◌∙◌, sym, arith}
use Rattle.dma_engine.specs.{Object.channel, Object.finished, View.object_of}
use Rattle.dma_why.proofs.WaitLemmas.{kept_fail, kept_pass}
use Rattle.dma_why.proofs.waits.push_signallers.Goals.{then-signals_later+in_ok-push, else-signals_later}
use Rattle.dma_why.proofs.waits.push_signallers.Goals as goal

pub loop-before-preserved : goal.loop-before-preserved
loop-before-preserved c =
    let b = c.loop-before.before in
    let first = finished (channel (object_of c.args.engine.now.view) c.args.ch) in
    let so_far = c.loop-before.invariant.0 in
    let place : (first + 1) + (b - first) ≡ b + 1 = omega (arith, c.loop-before.auto.before, c.finished-before.ensures) in
    let next : (b + 1) - first ≡ (b - first) + 1 = omega (arith, c.loop-before.auto.before, c.finished-before.ensures) in (
      elim c.if-signals_later.branch [
        | then-signals_later+in_ok-push w ↦
            rw (w.found-is, w.in_ok-push.ensures.items)
            (kept_pass _ _ _ _ _ _ _ _ so_far place next (sym c.signals_later.ensures ∙ w.if-signals_later.true))
        | else-signals_later w ↦
            rw w.found-is (kept_fail _ _ _ _ _ _ _ _ so_far place next (sym c.signals_later.ensures ∙ w.if-signals_later.false))
      ],
      omega (arith, c.loop-before-test.true, c.used-before-end.ensures, c.loop-before.auto.before, c.finished-before.ensures),
    )

pub returns : goal.returns
returns c = grind arith
