-- What a turn of a channel writes.
use Rattle.std.specs.{Prelude.◌≡◌, Prelude.ℕ, Prelude.Bool, Prelude.false, Prelude.List, Prelude.IsTrue, Prelude.map, List.list_any}
use Rattle.dma_mem.specs.Regions.{has, image_of, in_order, names_of, pieces_of, read_only_of}
use Rattle.dma_mem.specs.{Lent.lies_in_any, Marking.MarkList, declared.regions.Region.Region}
use Rattle.dma_chan.specs.{LentRegions.segment_of, Stepping.Wrote, Written.KeepsOutside, Written.LiesIn}
use Rattle.dma_device.specs.Turns.{Setup, TakesTurn, machine_in, steps_in}
use Rattle.dma_device.specs.{declared.device.turns.Turn.Turn, CallSteps.StepsThread, CallSteps.InTurn, CallSteps.marks_in, Device.DeviceValue}

-- one of the steps of a call of channel `n` wrote an address
abbrev pub CallWrote : MarkList → ℕ → ℕ → Bool → ℕ → Setup → Type 0
CallWrote marks n a made most s =
    (x : StepsThread made n s) × Wrote marks (machine_in s x.thread) (steps_in marks most x.thread s) a

-- one of the steps of a turn wrote an address
abbrev pub TurnWrote : DeviceValue → List Region → ℕ → ℕ → ℕ → Type 0
TurnWrote d regions n most a = InTurn (CallWrote (marks_in regions) n a) d regions n most

-- One of the turn's steps wrote each address in the range that the turn reports as written, and no byte outside the
-- range has changed. The regions keep their places.
pub record WritesRange (d : DeviceValue) (regions : List Region) (n most : ℕ) (e : DeviceValue) (left : List Region)
    (turn : Turn) : Type 0 where
  pub each : (a : ℕ) → LiesIn turn.written a → TurnWrote d regions n most a
  pub no_other : KeepsOutside turn.written (image_of (pieces_of regions)) (image_of (pieces_of left))
  pub places : map segment_of left ≡ map segment_of regions
  pub read_only : read_only_of left ≡ read_only_of regions
  pub names : names_of left ≡ names_of regions

-- Each turn, of a channel with any program, writes its range.
abbrev pub TurnWritesEach : Type 0
TurnWritesEach =
    (d : DeviceValue) (regions : List Region) (n most : ℕ) (e : DeviceValue) (left : List Region) (turn : Turn) →
    TakesTurn d regions n most e left turn → WritesRange d regions n most e left turn

-- Each address in the range of a turn over regions in order lies in one of them, and in none that is read-only.
abbrev pub TurnWritesInRegions : Type 0
TurnWritesInRegions =
    (d : DeviceValue) (regions : List Region) (n most : ℕ) (e : DeviceValue) (left : List Region) (turn : Turn) (a : ℕ) →
    IsTrue (in_order (pieces_of regions)) → TakesTurn d regions n most e left turn → LiesIn turn.written a →
    IsTrue (list_any (has a) (pieces_of regions)) × (lies_in_any (read_only_of regions) a ≡ false)
