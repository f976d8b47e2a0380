use Rattle.dma_device.proofs.Interrupts.{interrupts_are_exact}
use Rattle.dma_device.proofs.laws.interrupts_are_exact.Goals as goal

pub returns : goal.returns
returns c = interrupts_are_exact
