use Rattle.dma_explain.proofs.Refusals.{faults_refused, refusals_fault}
use Rattle.dma_explain.proofs.laws.refusals_are_faults.Goals as goal

pub returns : goal.returns
returns c = record { faults = refusals_fault; no_other = faults_refused }
