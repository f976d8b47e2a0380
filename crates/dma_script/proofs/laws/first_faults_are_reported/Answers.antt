use Rattle.dma_script.proofs.FaultLemmas.{first_faults_are_reported}
use Rattle.dma_script.proofs.laws.first_faults_are_reported.Goals as goal

pub returns : goal.returns
returns c = first_faults_are_reported
