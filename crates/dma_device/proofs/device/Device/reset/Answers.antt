use Rattle.std.proofs.Common.{arith}
use Rattle.std.proofs.{lemmas.Grind.common_steps, lemmas.Nat.pow_pos}
use Rattle.dma_device.proofs.Sound.{all_reset, reset_on, with_parts}
use Rattle.dma_device.proofs.device.Device.reset.Goals as goal

pub invariant_of-self : goal.invariant_of-self
invariant_of-self c = grind (arith, common_steps, all_reset, pow_pos, reset_on, with_parts)
