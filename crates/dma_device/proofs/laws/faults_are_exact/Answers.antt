use Rattle.dma_device.proofs.Faults.{abort_is_faulting, aborts_are_exact, faults_are_exact}
use Rattle.dma_device.proofs.laws.faults_are_exact.Goals as goal

pub returns : goal.returns
returns c = record { line = abort_is_faulting; exact = faults_are_exact; changes = aborts_are_exact }
