use Rattle.dma_chan.proofs.LayerLaws.{starts_at, ahead_is, left_is, step_is, turn_reports, survives, beside_others}
use Rattle.dma_chan.proofs.laws.runs_in_step.Goals as goal

pub returns : goal.returns
returns c = record { starts = starts_at; ahead = ahead_is; left = left_is; step = step_is; reports = turn_reports; survives = survives; beside_others = beside_others }
