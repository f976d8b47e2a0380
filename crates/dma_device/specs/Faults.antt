-- What makes threads faulting, and with them the line irq_abort high.
use Rattle.std.specs.Prelude.{◌≡◌, ◌≢◌, ◌⊎◌, ◌↔◌, ℕ, ◌%◌, ◌≤◌, Bool, true, false, not, ◌&&◌, ◌==◌, List, Option, Some, None, slice_get, if◌then◌else◌}
use Rattle.dma_insn.specs.ControlWord.{field}
use Rattle.dma_mem.specs.{Marking.MarkList, declared.regions.Region.Region}
use Rattle.dma_chan.specs.declared.turn.ChanTurn.{ChanTurn}
use Rattle.dma_chan.specs.declared.turn.ChanTurn.TheVariants.{Moved, Waiting, Ended, Fault}
use Rattle.dma_device.specs.Accesses.{Access, Answer, Does, Happen, IsExact, Resets, Restores, Turns, Writes}
use Rattle.dma_device.specs.{declared.config.Config.Config, declared.thread.Thread.Thread, CallSteps.StepsThread, CallSteps.InTurn, CallSteps.last_in}
use Rattle.dma_device.specs.{CallSteps.marks_in, CallSteps.signal_in, Device.DeviceValue, Device.irq_abort, Device.is_event, Device.read_at}
use Rattle.dma_device.specs.{Device.reset_device, Interrupts.IsHigh, Interrupts.is_fine, Thread.is_faulting, Turns.Setup}
use Rattle.dma_device.specs.Offsets as offset

-- a thread: the manager, or that of channel n
pub data Who : Type 0 where
  TheManager : Who
  TheChannel : ℕ → Who

-- whether there is a thread, and it is faulting
abbrev pub faults_if : Option Thread → Bool
faults_if None = false
faults_if (Some t) = is_faulting t

-- whether the device has this thread, and it is faulting
abbrev pub faults_at : Who → DeviceValue → Bool
faults_at TheManager d = d.manager.is_faulting
faults_at (TheChannel n) d = faults_if (slice_get d.threads n)

-- ---- the debug instruction

-- the debug instruction is executed by this thread
abbrev pub Addresses : DeviceValue → Who → Type 0
Addresses d TheManager = field 0 1 d.dbginst0 ≢ 1
Addresses d (TheChannel n) = (field 0 1 d.dbginst0 ≡ 1) × (field 8 3 d.dbginst0 ≡ n)

-- whether the thread is there and can execute it: it isn't faulting
abbrev pub can_execute : Who → DeviceValue → Bool
can_execute TheManager d = not d.manager.is_faulting
can_execute (TheChannel n) d = is_fine (slice_get d.threads n)

-- whether a DMAGO fails: the device doesn't have the channel, or a non-secure manager starts a secure one
abbrev pub go_fails : DeviceValue → Bool → Option Thread → Bool
go_fails d nonsecure None = true
go_fails d nonsecure (Some t) = d.config.nonsecure && not nonsecure

-- Whether an instruction fails if the manager executes it: any but DMAKILL, a DMASEV of an event that the device has,
-- and a DMAGO that doesn't.
abbrev pub manager_fails : DeviceValue → ℕ → ℕ → Bool
manager_fails d opcode byte =
    if opcode == 0x01 then false else (
    if opcode == 0x34 then not (is_event d byte) else (
    if opcode == 0xA0 then go_fails d false (slice_get d.threads byte) else (
    if opcode == 0xA2 then go_fails d true (slice_get d.threads byte) else true)))

-- Whether an instruction fails if a channel thread executes it from the debug registers: any but DMAKILL, and a DMASEV
-- of an event that the device has.
abbrev pub channel_fails : DeviceValue → ℕ → ℕ → Bool
channel_fails d opcode byte =
    if opcode == 0x01 then false else (if opcode == 0x34 then not (is_event d byte) else true)

-- whether the debug instruction fails if this thread executes it
abbrev pub debug_fails : Who → DeviceValue → Bool
debug_fails TheManager d = manager_fails d (field 16 8 d.dbginst0) (field 24 8 d.dbginst0)
debug_fails (TheChannel n) d = channel_fails d (field 16 8 d.dbginst0) (field 24 8 d.dbginst0)

-- A write of a value to DBGCMD makes this thread execute the debug instruction, which fails.
pub record DebugFails (who : Who) (d : DeviceValue) (value : ℕ) : Type 0 where
  pub command : value % 4 ≡ 0
  pub addresses : Addresses d who
  pub executes : can_execute who d ≡ true
  pub fails : debug_fails who d ≡ true

-- ---- a step

-- The last step of a call failed: its instruction failed; or it is a DMASEV or a DMAWFE of an event that the device
-- doesn't have; or there is no step, since the program has executed as many instructions as it can.
abbrev pub LastFails : ℕ → Option ChanTurn → Option ℕ → Type 0
LastFails events None signal = Unit {0}
LastFails events (Some Moved) None = ⊥
LastFails events (Some Moved) (Some e) = events ≤ e
LastFails events (Some (Waiting e)) signal = events ≤ e
LastFails events (Some Ended) signal = ⊥
LastFails events (Some (Fault kind)) signal = Unit {0}

-- a call of channel `n` fails: its last step fails
abbrev pub CallFails : MarkList → ℕ → Bool → ℕ → Setup → Type 0
CallFails marks n made most s =
    (x : StepsThread made n s)
    × LastFails s.device.config.events (last_in marks most x.thread s) (signal_in marks most x.thread s)

-- one of the two calls of a turn fails
abbrev pub TurnFails : DeviceValue → List Region → ℕ → ℕ → Type 0
TurnFails d regions n most = InTurn (CallFails (marks_in regions) n) d regions n most

-- ---- what makes a thread faulting, and ends that

-- An access makes this thread fail: a step of a turn of its channel, or a debug instruction that it executes; or it
-- restores a device in which the thread is faulting.
abbrev pub Fails : Who → Access → DeviceValue → List Region → Type 0
Fails (TheChannel m) (Turns n most) d regions = (m ≡ n) × TurnFails d regions n most
Fails who (Writes at value) d regions = (at ≡ offset.dbgcmd) × DebugFails who d value
Fails who (Restores saved) d regions = faults_at who saved ≡ true
Fails who a d regions = ⊥

-- an access kills this thread: a debug DMAKILL that it executes
abbrev pub Kills : Who → Access → DeviceValue → Type 0
Kills who (Writes at value) d =
    (at ≡ offset.dbgcmd) × ((value % 4 ≡ 0) × ((field 16 8 d.dbginst0 ≡ 0x01) × Addresses d who))
Kills who a d = ⊥

-- an access ends a fault of this thread: it kills the thread, is a reset, or restores a device in which the thread
-- isn't faulting
abbrev pub EndsFault : Who → Access → DeviceValue → Type 0
EndsFault who Resets d = Unit {0}
EndsFault who (Restores saved) d = faults_at who saved ≡ false
EndsFault who a d = Kills who a d

-- an access ends each fault: it is a reset, or restores a device without one
abbrev pub EndsAll : Access → Type 0
EndsAll Resets = Unit {0}
EndsAll (Restores saved) = irq_abort saved ≡ false
EndsAll a = ⊥

-- ---- along the accesses

-- For every list of accesses, a thread is faulting before access number n exactly if an access made it fail, and none
-- after it ended that; or if it was faulting at first, as none is after a reset, and no access ended that. Each access
-- may be lent other regions.
abbrev pub FaultsAreExact : Type 0
FaultsAreExact =
    (access : ℕ → Access) (answer : ℕ → Answer) (before : ℕ → DeviceValue) (lent left : ℕ → List Region)
    (count n : ℕ) (who : Who) → Happen access answer before lent left count → n ≤ count →
    IsExact (λ j. faults_at who (before j) ≡ true) (λ j. Fails who (access j) (before j) (lent j))
    (λ j. EndsFault who (access j) (before j)) n

-- ---- the line

-- What the line irq_abort says: it is high exactly if a thread is faulting; bit 0 of FSRD says whether the manager is,
-- and bit n of FSRC whether channel n is. It is low after a reset.
pub record AbortIsFaulting : Type 0 where
  pub line : (d : DeviceValue) → (irq_abort d ≡ true) ↔ ((who : Who) × (faults_at who d ≡ true))
  pub fsrd : (d : DeviceValue) → (read_at d offset.fsrd ≡ 1) ↔ (faults_at TheManager d ≡ true)
  pub fsrc : (d : DeviceValue) (n : ℕ) → IsHigh (read_at d offset.fsrc) n ↔ (faults_at (TheChannel n) d ≡ true)
  pub reset : (g : Config) → irq_abort (reset_device g) ≡ false

-- When the line changes: if it is low before an access, it is high after it exactly if the access makes a thread fail;
-- if it is high, it is low after exactly if the access ends each fault, or kills the last thread that is faulting.
pub record AbortIsExact (a : Access) (d e : DeviceValue) (regions : List Region) : Type 0 where
  pub rises : irq_abort d ≡ false → (irq_abort e ≡ true) ↔ ((who : Who) × Fails who a d regions)
  pub falls : irq_abort d ≡ true → (irq_abort e ≡ false)
      ↔ (EndsAll a ⊎ ((who : Who) × Kills who a d × (faults_at who d ≡ true)
      × ((other : Who) → faults_at other d ≡ true → other ≡ who)))

abbrev pub AbortsAreExact : Type 0
AbortsAreExact =
    (a : Access) (d e : DeviceValue) (regions left : List Region) (answer : Answer) →
    Does a d regions answer e left → AbortIsExact a d e regions
