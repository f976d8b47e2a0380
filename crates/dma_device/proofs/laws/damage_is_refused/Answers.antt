use Rattle.dma_device.proofs.Damage.{damage_is_refused}
use Rattle.dma_device.proofs.laws.damage_is_refused.Goals as goal

pub returns : goal.returns
returns c = damage_is_refused
