-- What a turn of a channel does.
use Rattle.std.specs.Prelude.{◌≡◌, ℕ, ◌+◌, ◌*◌, Bool, false, not, ◌&&◌, ◌==◌, nat_lt, List, [], ◌∷◌, Option, None, slice_get, bit_and, bit_or, if◌then◌else◌}
use Rattle.std.specs.{Int.w32, Int.bit_not, Option.option_map_or}
use Rattle.dma_insn.specs.ControlWord.{flag}
use Rattle.dma_mem.specs.Regions.{image_of, pieces_of}
use Rattle.dma_mem.specs.{Flags.flags_of, Marking.MarkList, Steps.taken_in, declared.regions.Region.Region}
use Rattle.dma_chan.specs.Stepping.{Machine, after_steps, last_of, machine, more_after, signal_after, written_after}
use Rattle.dma_chan.specs.{Channel.ahead_of, LentRegions.AreKept, LentRegions.with_gaps_of, Written.range_at}
use Rattle.dma_device.specs.Device.{DeviceValue, all_events, irq_abort, irqs, is_interrupt, with_thread}
use Rattle.dma_device.specs.{declared.thread.Thread.Thread, declared.device.turns.Called.Called, declared.device.turns.Turn.Turn, Thread.answered}
use Rattle.dma_device.specs.{Thread.is_store, Thread.runs}

-- The flags that a channel sees: the events that are set. While INTEN makes an event an interrupt, channels don't see
-- it (profile). A DMAWFE that passes clears its event, so one DMASEV wakes one waiting channel, the first that is
-- stepped (profile).
abbrev pub visible_events : DeviceValue → ℕ
visible_events d = bit_and d.events (bit_not w32 d.inten)

-- The device after a call that left a channel these flags. The call has set those that INTEN makes interrupts: they are
-- raised. The others are events, and the events that the channel didn't see stay. A flag of an event that the device
-- doesn't have is dropped.
abbrev pub with_flags : ℕ → DeviceValue → DeviceValue
with_flags flags d =
    let known = bit_and flags (all_events d) in
    record d {
      events = bit_or (bit_and d.events d.inten) (bit_and known (bit_not w32 d.inten));
      interrupts = bit_or d.interrupts (bit_and known d.inten);
    }

-- whether a call that set the flag of this event, if any, raised an interrupt
abbrev pub raises : DeviceValue → Option ℕ → Bool
raises d signal = option_map_or (is_interrupt d) signal false

-- whether there is a thread that runs, and whose next instruction is no store
abbrev pub runs_without_store : Option Thread → Bool
runs_without_store thread = option_map_or (λ t. runs t && not (is_store (ahead_of t.channel))) thread false

-- whether the device has thread `n`, and it runs
abbrev pub runs_at : DeviceValue → ℕ → Bool
runs_at d n = option_map_or runs (slice_get d.threads n) false

-- whether the first call of a turn of at most `most` steps is made: `most` isn't 0, and channel `n` runs
abbrev pub begins : DeviceValue → ℕ → ℕ → Bool
begins d n most = nat_lt 0 most && runs_at d n

-- Whether the second call is made, after a first one that did this and left this device: the first call's last step
-- raised an interrupt, channel `n` runs, and its next instruction is no store.
abbrev pub follows : DeviceValue → ℕ → Called → Bool
follows d n called = raises d called.signal && runs_without_store (slice_get d.threads n)

-- ---- a call

-- the number whose bits are these flags, the lowest first
abbrev pub number_of : List Bool → ℕ
number_of [] = 0
number_of (f ∷ fs) = flag f + 2 * number_of fs

-- A device, and the image of the memory that it is lent.
pub record Setup : Type 0 where
  pub device : DeviceValue
  pub image : List ℕ

-- What a call leaves, and what it did.
pub record Outcome : Type 0 where
  pub left : Setup
  pub called : Called

-- a call that does nothing
abbrev pub idle : Setup → Outcome
idle s = record { left = s; called = record { written = range_at 0 0; signal = None; taken = 0 } }

-- the channel of a thread, with the memory and the flags that it sees
abbrev pub machine_in : Setup → Thread → Machine
machine_in s t = machine t.channel s.image (flags_of (visible_events s.device))

-- the number of steps in a call of thread `t` of at most `most`
abbrev pub steps_in : MarkList → ℕ → Thread → Setup → ℕ
steps_in marks most t s = taken_in (more_after marks (machine_in s t)) most

-- A call of channel `n`, which is thread `t`, that executes k steps of the thread's program. A burst that meets one of
-- these marks fails.
abbrev pub counted : MarkList → ℕ → ℕ → Thread → Setup → Outcome
counted marks n k t s =
    let to = after_steps marks (machine_in s t) k in
    let signal = signal_after marks (machine_in s t) k in
    let moved : Thread = record t { channel = to.channel } in
    let thread = answered s.device.config.events moved (last_of marks (machine_in s t) k) signal in
    let device = with_thread n thread (with_flags (number_of to.flags) s.device) in
    let called : Called = record { written = written_after marks (machine_in s t) k; signal = signal; taken = k } in
    record { left = record { device = device; image = to.image }; called = called }

-- such a call of at most `most` steps
abbrev pub stepped : MarkList → ℕ → ℕ → Thread → Setup → Outcome
stepped marks n most t s = counted marks n (steps_in marks most t s) t s

-- `stepped`, or `idle` if there is no thread
abbrev pub called : MarkList → ℕ → ℕ → Option Thread → Setup → Outcome
called marks n most thread s = option_map_or (λ t. stepped marks n most t s) thread (idle s)

-- a call of channel `n`, if it is made
abbrev pub called_if : Bool → MarkList → ℕ → ℕ → Setup → Outcome
called_if made marks n most s = if made then called marks n most (slice_get s.device.threads n) s else idle s

-- ---- a turn

-- whether a line of `irqs`, or `irq_abort`, isn't the same in both devices
abbrev pub lines_differ : DeviceValue → DeviceValue → Bool
lines_differ d e = not (irqs d == irqs e && flag (irq_abort d) == flag (irq_abort e))

-- what a turn leaves and reports whose first call did this
abbrev pub turned_after : MarkList → ℕ → Setup → Outcome → Setup × Turn
turned_after marks n s first =
    let second = called_if (follows first.left.device n first.called) marks n 1 first.left in
    let turn : Turn = record {
      written = first.called.written;
      taken = first.called.taken + second.called.taken;
      lines_changed = lines_differ s.device second.left.device;
    } in
    (second.left, turn)

-- What a turn of channel `n` leaves and reports: a call of at most `most` steps, if it runs. If the call's last step
-- raised an interrupt, one more step is taken, which mostly is the program's DMAEND, since a driver's interrupt handler
-- expects its channel to be stopped (profile). A store is left to the next turn, so that at the interrupt no more is
-- copied than before its DMASEV (profile). So all that the turn writes is what the first call writes.
abbrev pub turned : MarkList → ℕ → ℕ → Setup → Setup × Turn
turned marks n most s = turned_after marks n s (called_if (begins s.device n most) marks n most s)

-- a device with the memory that regions lend
abbrev pub setup_of : DeviceValue → List Region → Setup
setup_of d regions = record { device = d; image = image_of (pieces_of regions) }

-- a device with what regions lend, and what a call did
abbrev pub outcome_of : DeviceValue → List Region → Called → Outcome
outcome_of d regions called = record { left = setup_of d regions; called = called }

-- A turn over regions is `turned`. A burst fails at the gaps between the regions, a store also in a read-only region,
-- and nowhere else.
pub record TakesTurn (d : DeviceValue) (regions : List Region) (n most : ℕ) (e : DeviceValue)
    (left : List Region) (turn : Turn) : Type 0 where
  pub is : turned (with_gaps_of regions []) n most (setup_of d regions) ≡ (setup_of e left, turn)
  pub kept : AreKept left regions
