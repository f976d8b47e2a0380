-- When nothing happens until the guest's next write, and what a turn does at a DMAWFE that waits.
use Rattle.std.specs.Prelude.{◌≡◌, ◌≢◌, ℕ, ◌+◌, ◌%◌, ◌^◌, ◌<◌, ◌≤◌, Bool, true, false, List, Some, Ok, slice_get}
use Rattle.std.specs.List.{All, list_any}
use Rattle.dma_mem.specs.declared.regions.Region.{Region}
use Rattle.dma_insn.specs.{ControlWord.flag, declared.chip.ChipInsn.TheVariants.Wfe}
use Rattle.dma_chan.specs.{Channel.ahead_of, Channel.last_count, Written.range_at}
use Rattle.dma_device.specs.Accesses.{Access, Answer, AreAlike, Does, Happen, Turned, Turns}
use Rattle.dma_device.specs.{declared.config.Config.Config, declared.device.turns.Turn.Turn, Config.is_valid, Device.DeviceValue, Device.reset_device}
use Rattle.dma_device.specs.{Device.with_thread, Events.IsVisible, Snapshot.IsSoundHead, Snapshot.IsDeviceValue, Snapshot.head_of, Thread.IsSound}
use Rattle.dma_device.specs.{Thread.can_step, Thread.runs, Turns.TakesTurn, Turns.begins, Turns.visible_events}
use Rattle.dma_device.specs.{declared.thread.Status.TheVariants.WaitingForEvent, declared.thread.Thread.Thread}

-- A device has at most 32 events, those that are set are among them, and each thread is sound.
pub record IsSoundDevice (d : DeviceValue) : Type 0 where
  pub few : d.config.events ≤ 32
  pub known : IsSoundHead (head_of d)
  pub threads : All (IsSound d.config.events) d.threads

-- A device is sound after a reset, if it has a save, and after each access to a sound device.
pub record StaySound : Type 0 where
  pub reset : (g : Config) → is_valid g ≡ true → IsSoundDevice (reset_device g)
  pub restored : (d : DeviceValue) → IsDeviceValue d → IsSoundDevice d
  pub kept : (a : Access) (d e : DeviceValue) (regions left : List Region) (answer : Answer) →
      Does a d regions answer e left → IsSoundDevice d → IsSoundDevice e

-- the report of a turn that wrote nothing, changed no line and took this number of steps
abbrev pub no_turn : ℕ → Turn
no_turn taken = record { written = range_at 0 0; lines_changed = false; taken = taken }

-- If none of a sound device's threads can step before a turn, of any channel, then the turn changes neither the device
-- nor a byte of the regions, and reports so. It takes one step if the channel runs, which then waits, and `most` isn't
-- 0; else none. The device was sound at first, as it is after a reset and a restore. Each access may be lent other
-- regions.
abbrev pub NothingHappens : Type 0
NothingHappens =
    (access : ℕ → Access) (answer : ℕ → Answer) (before : ℕ → DeviceValue) (lent left : ℕ → List Region)
    (count k n most : ℕ) →
    Happen access answer before lent left count → IsSoundDevice (before 0) → k < count → access k ≡ Turns n most →
    list_any (can_step (visible_events (before k))) (before k).threads ≡ false →
    (before (k + 1) ≡ before k) × AreAlike (left k) (lent k)
    × (answer k ≡ Turned (no_turn (flag (begins (before k) n most))))

-- If a thread of a sound device can step, each turn of its channel that may take a step changes the device: the thread
-- executes an instruction, which its channel counts, or it fails, or begins to wait.
abbrev pub TurnChanges : Type 0
TurnChanges =
    (d e : DeviceValue) (regions left : List Region) (n most : ℕ) (turn : Turn) (t : Thread) →
    TakesTurn d regions n most e left turn → IsSoundDevice d → slice_get d.threads n ≡ Some t →
    can_step (visible_events d) t ≡ true → 0 < most → e ≢ d

-- ---- a turn at a DMAWFE that waits

-- Thread n is at a DMAWFE that waits: it runs, and its next instruction, which it may execute, is a DMAWFE of an event
-- of the device that isn't set, or that INTEN makes an interrupt.
pub record IsAtWait (d : DeviceValue) (n : ℕ) (t : Thread) (event : ℕ) : Type 0 where
  pub found : slice_get d.threads n ≡ Some t
  pub running : runs t ≡ true
  pub invalid : Bool
  pub next : ahead_of t.channel ≡ Ok (Wfe event invalid)
  pub few : t.channel.taken < last_count
  pub known : event < d.config.events
  pub unseen : ¬ IsVisible d event

-- a thread that waits for an event, with CPC the address of its next instruction
abbrev pub waiting : ℕ → Thread → Thread
waiting event t =
    record t { status = WaitingForEvent event; pc = (t.base + t.channel.registers.pc) % 2 ^ 32 }

-- If a thread of a sound device is at a DMAWFE that waits, then a turn of its channel that may take a step changes
-- nothing but the thread's status and CPC: it waits for the event. No byte of the regions is changed, and the turn
-- reports so, and that it took one step.
abbrev pub WaitsInVain : Type 0
WaitsInVain =
    (d e : DeviceValue) (regions left : List Region) (n most event : ℕ) (turn : Turn) (t : Thread) →
    TakesTurn d regions n most e left turn → IsSoundDevice d → IsAtWait d n t event → 0 < most →
    (e ≡ with_thread n (waiting event t) d) × AreAlike left regions × (turn ≡ no_turn 1)
