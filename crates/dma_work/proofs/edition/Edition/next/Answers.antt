use Rattle.std.proofs.Common.{◌≡◌, [], ◌∷◌, ◌++◌, length, length-append, ap, sym, ◌∙◌, arith}
use Rattle.dma_engine.specs.Ticks.{ticked}
use Rattle.dma_work.specs.{Ticks.board_from, inner.Published.PublishedList, inner.Published.SnapshotState, inner.TickForms.ticks_of_option}
use Rattle.dma_work.proofs.Boards.{board_push}
use Rattle.dma_work.proofs.edition.Edition.next.Goals as goal

pub invariant_of-result : goal.invariant_of-result
invariant_of-result c =
    let f = c.self.inside in
    let tick = c.args.tick in
    let list = f.before.ticks ++ ticks_of_option f.next in
    let now : list ≡ c.args.self.now.ticks = ap (λ (x : PublishedList). x.ticks) c.self.view_is in
    let same : c.args.before.ticks ≡ list = ap (λ (s : SnapshotState). s.ticks) c.requires.list ∙ sym now in (
      c.add.ensures ∙ ap (λ b. ticked b tick) c.self.invariant.0 ∙ sym (board_push f.base list tick)
          ∙ ap (λ l. board_from f.base (l ++ tick ∷ [])) (sym same),
      omega (arith, c.self.invariant.1, ap length same, length-append c.args.before.ticks (tick ∷ [])),
    )
