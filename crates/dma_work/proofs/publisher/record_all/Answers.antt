use Rattle.std.proofs.Common.{◌≡◌, ◌+◌, [], ◌∷◌, ◌++◌, take, ap, sym, ◌∙◌}
use Rattle.dma_engine.specs.Ticks.{ticks_of}
use Rattle.dma_work.specs.inner.Published.{SnapshotState}
use Rattle.dma_work.specs.Ticks.{board_from}
use Rattle.dma_work.proofs.Boards.{board_append}
use Rattle.dma_work.proofs.FirstBoards.{small_base, ticks_more}
use Rattle.dma_work.proofs.publisher.record_all.Goals as goal

pub loop-index-preserved : goal.loop-index-preserved
loop-index-preserved c =
    let n = c.loop-index.index in
    let history = c.history-history.result.now in
    let entry = c.index-history-index.result in
    let one = ticks_of (entry ∷ []) in
    let all : ticks_of (take (n + 1) history) ≡ ticks_of (take n history) ++ one =
    ticks_more history n entry c.loop-index-test.true ∙ ap (λ e. ticks_of (take n history) ++ ticks_of (e ∷ [])) (sym c.index-history-index.is) in
    let is = c.record_one.ensures.log c.if-not-record_one.false in
    record {
      log = ap (λ (r : SnapshotState). r.log) is ∙ c.loop-index.invariant.log;
      ticks = ap (λ (r : SnapshotState). r.ticks) is ∙ ap (λ l. l ++ one) c.loop-index.invariant.ticks ∙ sym all;
      counts = c.record_one.ensures.counts c.if-not-record_one.false ∙ ap (λ b. board_from b one) c.loop-index.invariant.counts
          ∙ sym (ap (λ (r : SnapshotState). board_from c.args.base r.ticks) is ∙ board_append c.args.base c.loop-index.log.all.ticks one);
    }

pub returns-clause-small : goal.returns-clause-small
returns-clause-small c = small_base c.args.engine.now.view c.facts.ensures.sound
