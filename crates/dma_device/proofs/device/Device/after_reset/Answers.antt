use Rattle.std.proofs.Common.{arith}
use Rattle.std.proofs.{lemmas.Grind.common_steps, lemmas.List.length-replicate, lemmas.Nat.pow_pos}
use Rattle.dma_device.proofs.Sound.{all_reset, few_events, reset_on}
use Rattle.dma_device.proofs.device.Device.after_reset.Goals as goal

pub invariant_of-result : goal.invariant_of-result
invariant_of-result c = grind (arith, common_steps, all_reset, few_events, length-replicate, pow_pos, reset_on)
