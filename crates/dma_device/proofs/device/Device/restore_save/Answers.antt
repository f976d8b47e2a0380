use Rattle.std.proofs.Common.{◌≡◌, ◌-◌, ◌≤◌, List, arith, drop, length, take, ℕ}
use Rattle.std.proofs.{lemmas.Grind.common_steps, lemmas.List.drop_at, lemmas.List.take-append-drop, lemmas.List.take_at}
use Rattle.std.specs.Int.{w32, to_le_bytes}
use Rattle.dma_chan.specs.Saved.{checksum}
use Rattle.dma_device.specs.{Device.DeviceValue, Snapshot.device_parts, Snapshot.saved_device}
use Rattle.dma_device.proofs.SavedDevices.{device_length, own_length, own_parts}
use Rattle.dma_device.proofs.device.Device.restore_save.Goals as goal

-- a save is long
long : (save : List ℕ) (d : DeviceValue) → save ≡ saved_device d → 40 ≤ length save
long save d h1 = grind (arith, common_steps, device_length, own_length)

-- the parts of a save
parts : (save : List ℕ) (d : DeviceValue) → save ≡ saved_device d → take (length save - 4) save ≡ device_parts d
parts save d own = grind (arith, common_steps, own_length, own_parts, take_at)

sum : (save : List ℕ) (d : DeviceValue) → save ≡ saved_device d → drop (length save - 4) save ≡ to_le_bytes w32 (checksum (take (length save - 4) save))
sum save d own = grind (arith, common_steps, drop_at, own_length, own_parts, parts)

pub returns-then-save-lt-HEAD_LEN-clause-all : goal.returns-then-save-lt-HEAD_LEN-clause-all
returns-then-save-lt-HEAD_LEN-clause-all c d v config e = absurd (omega (arith, long c.args.save.now d e, c.if-save-lt-HEAD_LEN.true))

pub returns-then-is_sealed-clause-ok : goal.returns-then-is_sealed-clause-ok
returns-then-is_sealed-clause-ok c = grind (arith, common_steps, own_parts, take-append-drop)

pub returns-then-is_sealed-clause-all : goal.returns-then-is_sealed-clause-all
returns-then-is_sealed-clause-all c d v config e = grind (arith, common_steps, parts)

pub returns-else-is_sealed-clause-all : goal.returns-else-is_sealed-clause-all
returns-else-is_sealed-clause-all c d v config e = grind (arith, common_steps, sum)
