use Rattle.std.proofs.Common.{◌≡◌, ◌*◌, sym, ◌∙◌, ap, arith}
use Rattle.std.proofs.lemmas.Grind.{common_steps}
use Rattle.logbook.specs.Pages.{Named}
use Rattle.dma_work.specs.inner.Published.{SnapshotState, head_of}
use Rattle.dma_work.proofs.LogSteps.{room_moves}
use Rattle.dma_work.proofs.log.spare_cell.Goals as goal

pub compare_exchange-found-requires : goal.compare_exchange-found-requires
compare_exchange-found-requires c =
    let h = c.requires ∙ ap (λ (r : SnapshotState). head_of r.log) (sym c.all.view_is) in
    let f = c.all.inside in
    let offer = c.plain-offer.ensures in
    let pen = c.no_pen-pen.ensures in
    let again = c.again-seen.ensures in
    let count : c.in_ok-count.count ≡ 2 * f.len = grind (arith, common_steps) in (
      ap (λ (w : Named). w.tracked) h,
      ap (λ s. s.book) again ∙ sym (ap (λ (w : Named). w.book) h),
      pen.0 ∙ sym (ap (λ (w : Named). w.book) h),
      offer.0 ∙ sym (ap (λ s. s.names) again),
      rw (ap (λ (w : Named). w.key) h, pen.1, offer.3, again)
          (room_moves f.seen.log c.plain-offer.result.ask c.in_ok-count.count (omega (arith, count, c.all.invariant.0))),
    )
