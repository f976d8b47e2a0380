use Rattle.std.proofs.Common.{arith}
use Rattle.std.proofs.lemmas.Grind.{common_steps}
use Rattle.dma_device.proofs.save.is_sealed.Goals as goal

pub returns : goal.returns
returns c = grind (arith, common_steps)
