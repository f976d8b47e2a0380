use Rattle.std.proofs.Common.{◌≡◌, ◌+◌, ◌-◌, ◌*◌, sym, ◌∙◌, ap, arith, length-append, [], ◌∷◌, ◌++◌, length}
use Rattle.std.specs.List.{slice_get}
use Rattle.std.proofs.lemmas.Grind.{common_steps}
use Rattle.logbook.specs.Pages.{Named}
use Rattle.dma_work.specs.inner.Published.{SnapshotState, head_of}
use Rattle.dma_engine.proofs.Queues.{slice_get_push_last}
use Rattle.dma_work.proofs.LogSteps.{tick_moves}
use Rattle.dma_work.proofs.log.added.Goals as goal

pub compare_exchange-requires : goal.compare_exchange-requires
compare_exchange-requires c =
    let h = c.requires.head ∙ ap (λ (r : SnapshotState). head_of r.log) (sym c.all.view_is) in
    let f = c.all.inside in
    let offer = c.plain-offer.ensures in
    let again = c.again-seen.ensures in
    let log = ap (λ (r : SnapshotState). r.log) (sym c.all.view_is) in
    let ticks = ap (λ (r : SnapshotState). r.ticks) (sym c.all.view_is) in (
      ap (λ (w : Named). w.tracked) h,
      ap (λ s. s.book) again ∙ sym (ap (λ (w : Named). w.book) h),
      c.requires.pen.0 ∙ log ∙ sym (ap (λ (w : Named). w.book) h),
      offer.0 ∙ sym (ap (λ s. s.names) again),
      rw (ap (λ (w : Named). w.key) h, c.requires.pen.1, ticks, offer.1, offer.3, again)
          (tick_moves f.seen.log c.args.tick (2 * f.len + 1) (omega (arith, c.all.invariant.0))),
    )

pub invariant_of-result : goal.invariant_of-result
invariant_of-result c =
    let f = c.all.inside in
    let tick = c.args.tick in
    let all : c.compare_exchange.new.seen.log ≡ f.seen.log ++ tick ∷ [] = grind (arith, common_steps) in
    let len : f.len + 1 ≡ length (f.seen.log ++ tick ∷ []) = omega (arith, c.all.invariant.0, length-append f.seen.log (tick ∷ [])) in
    (len ∙ ap length (sym all), sym (ap (λ l. slice_get l (f.len + 1 - 1)) all ∙ slice_get_push_last f.seen.log tick (f.len + 1 - 1) (omega (arith, c.all.invariant.0))))
