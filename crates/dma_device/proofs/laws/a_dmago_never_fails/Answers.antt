use Rattle.dma_device.proofs.Copies.{dmago_never_fails}
use Rattle.dma_device.proofs.laws.a_dmago_never_fails.Goals as goal

pub returns : goal.returns
returns c = dmago_never_fails
