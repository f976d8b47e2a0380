-- The calls of a turn, and their steps.
use Rattle.std.specs.Prelude.{◌≡◌, ◌⊎◌, ℕ, Bool, true, List, [], Option, Some, slice_get}
use Rattle.dma_mem.specs.{Marking.MarkList, declared.regions.Region.Region}
use Rattle.dma_chan.specs.Stepping.{Machine, after_steps, last_of, signal_after}
use Rattle.dma_chan.specs.{LentRegions.with_gaps_of, declared.turn.ChanTurn.ChanTurn}
use Rattle.dma_device.specs.Turns.{Outcome, Setup, begins, called_if, follows, machine_in, setup_of, steps_in}
use Rattle.dma_device.specs.{declared.thread.Thread.Thread, Device.DeviceValue}

-- A call (`called_if`) of channel `n` that is made takes steps of its thread.
pub record StepsThread (made : Bool) (n : ℕ) (s : Setup) : Type 0 where
  pub on : made ≡ true
  pub thread : Thread
  pub found : slice_get s.device.threads n ≡ Some thread

-- the machine of thread `t` after k steps
abbrev pub machine_after : MarkList → Setup → Thread → ℕ → Machine
machine_after marks s t k = after_steps marks (machine_in s t) k

-- the answer of a call's last step, or None if it takes no step
abbrev pub last_in : MarkList → ℕ → Thread → Setup → Option ChanTurn
last_in marks most t s = last_of marks (machine_in s t) (steps_in marks most t s)

-- the event whose flag a call's last step set, if any
abbrev pub signal_in : MarkList → ℕ → Thread → Setup → Option ℕ
signal_in marks most t s = signal_after marks (machine_in s t) (steps_in marks most t s)

-- the marks at which bursts over regions fail
abbrev pub marks_in : List Region → MarkList
marks_in regions = with_gaps_of regions []

-- the first and the second call of a turn over regions
abbrev pub first_in : DeviceValue → List Region → ℕ → ℕ → Outcome
first_in d regions n most = called_if (begins d n most) (marks_in regions) n most (setup_of d regions)

abbrev pub second_in : DeviceValue → List Region → ℕ → ℕ → Outcome
second_in d regions n most =
    let first = first_in d regions n most in
    called_if (follows first.left.device n first.called) (marks_in regions) n 1 first.left

-- one of the two calls of a turn, by whether it is made, its most steps and where it begins
abbrev pub InTurn : (Bool → ℕ → Setup → Type 0) → DeviceValue → List Region → ℕ → ℕ → Type 0
InTurn Has d regions n most =
    let first = first_in d regions n most in
    Has (begins d n most) most (setup_of d regions) ⊎ Has (follows first.left.device n first.called) 1 first.left
