-- Interrupts are neither lost nor invented: what raises and lowers the lines irq[31:0].
use Rattle.std.specs.Prelude.{◌≡◌, ◌⊎◌, ℕ, ◌*◌, ◌%◌, ◌^◌, ◌<◌, ◌≤◌, Bool, true, false, not, ◌==◌, List, Option, Some, None, slice_get, if◌then◌else◌}
use Rattle.std.specs.Int.{bit_at}
use Rattle.dma_insn.specs.ControlWord.{field}
use Rattle.dma_mem.specs.declared.regions.Region.{Region}
use Rattle.dma_device.specs.Accesses.{Access, Answer, Happen, IsExact, Resets, Restores, Turns, Writes}
use Rattle.dma_device.specs.{Device.DeviceValue, Device.irqs, Thread.is_faulting, declared.thread.Thread.Thread, CallSteps.first_in, CallSteps.second_in}
use Rattle.dma_device.specs.Offsets as offset

-- bit k of a number is 1
abbrev pub IsHigh : ℕ → ℕ → Type 0
IsHigh bits k = bit_at bits k ≡ 1

-- ---- what executes a DMASEV

-- the debug instruction is a DMASEV of event k: byte 0 is 0x34, and byte 1 has the event in bits 7:3
abbrev pub IsDmasev : DeviceValue → ℕ → Type 0
IsDmasev d k = (field 16 8 d.dbginst0 ≡ 0x34) × (field 24 8 d.dbginst0 ≡ 8 * k)

-- whether a channel thread is there and not faulting
abbrev pub is_fine : Option Thread → Bool
is_fine None = false
is_fine (Some t) = not (is_faulting t)

-- Whether the thread that executes the debug instruction is there and not faulting: a channel thread if bit 0 of
-- DBGINST0 is 1, else the manager.
abbrev pub can_debug : DeviceValue → Bool
can_debug d =
    if field 0 1 d.dbginst0 == 1 then is_fine (slice_get d.threads (field 8 3 d.dbginst0))
    else not d.manager.is_faulting

-- A write of a value to DBGCMD executes a DMASEV of event k: bits 1:0 of the value are 0, the debug instruction is this
-- DMASEV, the device has the event, and the instruction's thread can execute it.
pub record DebugSignals (d : DeviceValue) (value k : ℕ) : Type 0 where
  pub command : value % 4 ≡ 0
  pub dmasev : IsDmasev d k
  pub event : k < d.config.events
  pub executes : can_debug d ≡ true

-- A turn executes a DMASEV of event k: it is the last step of one of the turn's two calls. No other step of a call is a
-- DMASEV.
abbrev pub TurnSignals : DeviceValue → List Region → ℕ → ℕ → ℕ → Type 0
TurnSignals d regions n most k =
    ((first_in d regions n most).called.signal ≡ Some k) ⊎ ((second_in d regions n most).called.signal ≡ Some k)

-- An access executes a DMASEV of event k: a turn of a channel, or a write to DBGCMD.
abbrev pub Signals : ℕ → Access → DeviceValue → List Region → Type 0
Signals k (Turns n most) d regions = TurnSignals d regions n most k
Signals k (Writes at value) d regions = (at ≡ offset.dbgcmd) × DebugSignals d value k
Signals k a d regions = ⊥

-- ---- what raises and clears an interrupt (DMA-330 manual, INTEN and INTCLR)

-- An access raises interrupt k: it executes a DMASEV of event k while bit k of INTEN is 1; or it restores a device
-- whose line k is high.
abbrev pub Raises : ℕ → Access → DeviceValue → List Region → Type 0
Raises k (Restores saved) d regions = IsHigh (irqs saved) k
Raises k a d regions = IsHigh d.inten k × Signals k a d regions

-- An access clears interrupt k: a write to INTCLR with bit k, while bit k of INTEN is 1; a reset; or a restore of a
-- device whose line k is low.
abbrev pub Clears : ℕ → Access → DeviceValue → Type 0
Clears k (Writes at value) d = (at ≡ offset.intclr) × (IsHigh value k × IsHigh d.inten k)
Clears k Resets d = Unit {0}
Clears k (Restores saved) d = ¬ IsHigh (irqs saved) k
Clears k a d = ⊥

-- ---- along the accesses

-- The device has line k. It has at most 32 events, and INTEN has 32 bits.
pub record HasLine (d : DeviceValue) (k : ℕ) : Type 0 where
  pub events : d.config.events ≤ 32
  pub event : k < d.config.events
  pub inten : d.inten < 2 ^ 32

-- For every list of accesses, line k (and bit k of INTMIS) is high before access number n exactly if an access raised
-- interrupt k, and none after it cleared the interrupt; or if the line was high at first, as it is not after a reset,
-- and no access cleared it. Each access may be lent other regions.
abbrev pub InterruptsAreExact : Type 0
InterruptsAreExact =
    (access : ℕ → Access) (answer : ℕ → Answer) (before : ℕ → DeviceValue) (lent left : ℕ → List Region)
    (count k n : ℕ) →
    Happen access answer before lent left count → HasLine (before 0) k → n ≤ count →
    IsExact (λ j. IsHigh (irqs (before j)) k) (λ j. Raises k (access j) (before j) (lent j))
    (λ j. Clears k (access j) (before j)) n
