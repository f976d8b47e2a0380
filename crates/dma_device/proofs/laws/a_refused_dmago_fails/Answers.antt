use Rattle.dma_device.proofs.Refused.{refused_fails}
use Rattle.dma_device.proofs.laws.a_refused_dmago_fails.Goals as goal

pub returns : goal.returns
returns c = refused_fails
