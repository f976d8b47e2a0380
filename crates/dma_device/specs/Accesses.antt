-- Accesses in a row: what a guest's driver and its processor do to a device and to RAM, and the turns that a host gives
-- to channels, in any order. The host also resets and restores the device.
use Rattle.std.specs.Prelude.{◌≡◌, ◌⊎◌, ◌↔◌, ℕ, ◌+◌, ◌<◌, ◌≤◌, List, map, slice_set}
use Rattle.dma_mem.specs.{Regions.image_of, Regions.pieces_of, Regions.read_only_of, declared.regions.Region.Region}
use Rattle.dma_chan.specs.LentRegions.{segment_of}
use Rattle.dma_device.specs.Device.{DeviceValue, read_at, reset_device, written}
use Rattle.dma_device.specs.{declared.device.turns.Turn.Turn, Snapshot.IsDeviceValue, Turns.TakesTurn}

-- A read or a write of the register at an offset, a turn of channel n of at most `most` steps, a byte that the processor
-- writes to an address of RAM, a reset of the device, or a restore that makes it this saved device.
pub data Access : Type 0 where
  Reads : ℕ → Access
  Writes : ℕ → ℕ → Access
  Turns : ℕ → ℕ → Access
  Stores : ℕ → ℕ → Access
  Resets : Access
  Restores : DeviceValue → Access

-- what an access returns
pub data Answer : Type 0 where
  Value : ℕ → Answer
  Done : Answer
  Turned : Turn → Answer

-- Regions have the same pieces as others, and the same of them are read-only.
pub record AreAlike (left regions : List Region) : Type 0 where
  pub pieces : pieces_of left ≡ pieces_of regions
  pub read_only : read_only_of left ≡ read_only_of regions

-- What an access makes of a device and of the regions, and what it returns. A restored device has the configuration of
-- the one before, and satisfies what every device does.
abbrev pub Does : Access → DeviceValue → List Region → Answer → DeviceValue → List Region → Type 0
Does (Reads at) d regions answer e left =
    (answer ≡ Value (read_at d at)) × (e ≡ d) × AreAlike left regions
Does (Writes at value) d regions answer e left =
    (answer ≡ Done) × (e ≡ written (pieces_of regions) at value d) × AreAlike left regions
Does (Turns n most) d regions answer e left =
    (turn : Turn) × ((answer ≡ Turned turn) × TakesTurn d regions n most e left turn)
Does (Stores addr byte) d regions answer e left =
    (answer ≡ Done) × (e ≡ d) × (map segment_of left ≡ map segment_of regions)
    × (read_only_of left ≡ read_only_of regions)
    × (image_of (pieces_of left) ≡ slice_set (image_of (pieces_of regions)) addr byte)
Does Resets d regions answer e left = (answer ≡ Done) × (e ≡ reset_device d.config) × AreAlike left regions
Does (Restores saved) d regions answer e left =
    (answer ≡ Done) × (e ≡ saved) × AreAlike left regions × (saved.config ≡ d.config) × IsDeviceValue saved

-- Accesses in a row, of which there are `count`: number k finds the device `before k` and the regions `lent k`, returns
-- `answer k`, and leaves `before (k + 1)` and `left k`. Each access may be lent other regions: `lent (k + 1)` may
-- differ from `left k` in places, bytes and what is read-only.
abbrev pub Happen : (ℕ → Access) → (ℕ → Answer) → (ℕ → DeviceValue) → (lent left : ℕ → List Region) → ℕ → Type 0
Happen access answer before lent left count =
    (k : ℕ) → k < count → Does (access k) (before k) (lent k) (answer k) (before (k + 1)) (left k)

-- ---- when a fact holds, by the accesses that make it hold and those that end it

-- no access from number i to number n - 1 ends the fact
abbrev pub Stays : (ℕ → Type 0) → ℕ → ℕ → Type 0
Stays Ends i n = (j : ℕ) → i ≤ j → j < n → ¬ Ends j

-- an access before number n makes the fact hold, and no later access before number n ends it
pub record Since (Makes Ends : ℕ → Type 0) (n : ℕ) : Type 0 where
  pub at : ℕ
  pub below : at < n
  pub makes : Makes at
  pub stays : Stays Ends (at + 1) n

-- The fact holds before access number n exactly if an earlier access made it hold and none has ended it since; or if it
-- holds before access number 0, and no access before number n ends it.
abbrev pub IsExact : (Holds Makes Ends : ℕ → Type 0) → ℕ → Type 0
IsExact Holds Makes Ends n = Holds n ↔ (Since Makes Ends n ⊎ (Holds 0 × Stays Ends 0 n))
