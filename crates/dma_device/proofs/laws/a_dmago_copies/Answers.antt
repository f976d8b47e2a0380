use Rattle.dma_device.proofs.Copies.{dmago_copies}
use Rattle.dma_device.proofs.laws.a_dmago_copies.Goals as goal

pub returns : goal.returns
returns c = dmago_copies
