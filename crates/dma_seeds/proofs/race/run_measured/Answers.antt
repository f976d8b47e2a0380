use Rattle.std.proofs.lemmas.Result.{on_ok_weaker}
use Rattle.dma_seeds.specs.declared.race.MeasuredEngine.{MeasuredEngine}
use Rattle.dma_seeds.proofs.RaceLemmas.{measured_left, measured_prints}
use Rattle.dma_seeds.proofs.race.run_measured.Goals as goal

pub returns-clause-left : goal.returns-clause-left
returns-clause-left c =
    on_ok_weaker c.run.result (λ done. measured_left (λ (m : MeasuredEngine). m.engine.view) (λ (m : MeasuredEngine). m.lengths.items) _ _ _ _ _ done)
    c.run.ensures.ok

pub returns-clause-text : goal.returns-clause-text
returns-clause-text c =
    on_ok_weaker c.run.result (λ done. measured_prints (λ (m : MeasuredEngine). m.engine.view) (λ (m : MeasuredEngine). m.lengths.items) _ _ _ _ _ done)
    c.run.ensures.ok
