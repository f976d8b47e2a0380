use Rattle.std.proofs.Common.{subst}
use Rattle.dma_device.specs.Idle.{IsSoundDevice}
use Rattle.dma_device.proofs.device.Device.can_step.Goals as goal

pub returns-clause-sound : goal.returns-clause-sound
returns-clause-sound c = subst IsSoundDevice c.self.view_is c.self.invariant.sound
