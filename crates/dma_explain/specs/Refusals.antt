-- What a channel does at the instruction at which `explain` refuses its program.
use Rattle.std.specs.Prelude.{◌≡◌, ℕ, ◌+◌, ◌≤◌, ◌<◌, Bool, List, [], length, Option, Some, None}
use Rattle.std.specs.Option.{option_and_then}
use Rattle.dma_mem.specs.{Places.end_of_addresses, Marking.MarkList}
use Rattle.dma_chan.specs.{declared.exec.Registers.Registers, declared.turn.ChanTurn.TheVariants.Moved, declared.turn.FaultKind.FaultKind}
use Rattle.dma_chan.specs.{declared.turn.FaultKind.TheVariants.DataReadErr, declared.turn.FaultKind.TheVariants.DataWriteErr, Channel.ChannelValue}
use Rattle.dma_chan.specs.{Channel.loaded_with, Channel.state_of, Channel.step_of, Channel.stepped, Exec.fault_in, Exec.faults, Programs.ProgramValue}
use Rattle.dma_explain.specs.declared.explain.Cause.TheVariants.{Fails, LoadsPast, StoresPast}
use Rattle.dma_explain.specs.Explains.{GoesOn, Refuses, next_in, stop_of, traced}
use Rattle.dma_explain.specs.{declared.explain.Cause.Cause, declared.explain.Unexplained.Unexplained}

-- The fault that a channel answers at an instruction that is refused for this cause, or None for a cause that is no
-- fault, such as an address that is stored twice.
abbrev pub fault_of_cause : Cause → Option FaultKind
fault_of_cause (Fails kind) = Some kind
fault_of_cause LoadsPast = Some DataReadErr
fault_of_cause StoresPast = Some DataWriteErr
fault_of_cause cause = None

-- A channel into which exactly this program was loaded with these registers executes n instructions. `channel k` is the
-- channel before instruction number k, which is executed with its own marks, memory and flags: others may change them
-- between two instructions.
pub record ExecutesFirst (start : Registers) (program : List ℕ) (n : ℕ) (marks : ℕ → MarkList) (channel : ℕ → ChannelValue)
    (image : ℕ → List ℕ) (flags : ℕ → List Bool) : Type 0 where
  pub begins : (p : ProgramValue) × (p.bytes ≡ program) × (channel 0 ≡ loaded_with start p)
  pub moves : (k : ℕ) → k < n → (step_of (marks k) (channel k) (image k) (flags k)).0 ≡ Moved
  pub goes_on : (k : ℕ) → k < n → channel (k + 1) ≡ stepped (marks k) (channel k) (image k) (flags k)

-- If a program is refused for a fault, each channel that gets to the refused instruction answers this fault and changes
-- nothing, in all memories of at most 2^32 bytes, with all marks and all flags.
abbrev pub RefusalsAreFaults : Type 0
RefusalsAreFaults =
    (start : Registers) (program : List ℕ) (most : ℕ) (u : Unexplained) (marks : ℕ → MarkList)
    (channel : ℕ → ChannelValue) (image : ℕ → List ℕ) (flags : ℕ → List Bool) → Refuses start program most u →
    ExecutesFirst start program u.steps marks channel image flags →
    (ms : MarkList) (memory : List ℕ) (fs : List Bool) (kind : FaultKind) → length memory ≤ end_of_addresses →
    fault_of_cause u.cause ≡ Some kind →
    step_of ms (channel u.steps) memory fs ≡ faults kind (state_of (channel u.steps) memory fs)

-- the first n instructions of a program go on
abbrev pub FirstGoOn : Registers → List ℕ → ℕ → Type 0
FirstGoOn start program n = (k : ℕ) → k < n → let x = traced start program k in GoesOn (next_in program x) x

-- the fault for which a program is refused at the instruction after n others, or None
abbrev pub refused_fault : Registers → List ℕ → ℕ → Option FaultKind
refused_fault start program n =
    let x = traced start program n in option_and_then fault_of_cause (stop_of (next_in program x) x)

-- In a memory of 2^32 bytes without marks, a channel that has executed n instructions that go on answers at the next
-- one the fault for which the program is refused there, and no fault if it isn't refused there for one.
abbrev pub FaultsAreRefusals : Type 0
FaultsAreRefusals =
    (start : Registers) (program : List ℕ) (n : ℕ) (marks : ℕ → MarkList) (channel : ℕ → ChannelValue)
    (image : ℕ → List ℕ) (flags : ℕ → List Bool) → FirstGoOn start program n →
    ExecutesFirst start program n marks channel image flags →
    (memory : List ℕ) (fs : List Bool) → length memory ≡ end_of_addresses →
    fault_in (step_of [] (channel n) memory fs).0 ≡ refused_fault start program n
