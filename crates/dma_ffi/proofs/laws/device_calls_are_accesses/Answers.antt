use Rattle.std.proofs.Common.{List, inl, inr, ap, drop, take, ℕ, arith}
use Rattle.dma_device.specs.{Snapshot.IsOfOther, declared.config.Config.Config, Device.DeviceValue}
use Rattle.dma_device.proofs.SavedDevices.{own_identity}
use Rattle.dma_ffi.specs.Devices.{IsSaveOf}
use Rattle.dma_ffi.proofs.laws.device_calls_are_accesses.Goals as goal

-- the save of a device doesn't begin as that of another configuration
no_other : (save : List ℕ) (g : Config) (d : DeviceValue) → IsSaveOf save g d → ¬ IsOfOther g save
no_other save g d is w = grind (arith, ap, take, drop, own_identity)

pub returns : goal.returns
returns c = grind (arith, arith, inl, inr, no_other)
