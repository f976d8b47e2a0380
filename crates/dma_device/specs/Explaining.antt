-- What the program of a channel copies and sets to 0, as the device explains it, and that its turns stay in this work.
use Rattle.std.specs.Prelude.{◌≡◌, ◌≢◌, ◌⊎◌, ℕ, ◌+◌, ◌-◌, ◌<◌, ◌≤◌, Bool, List, length, Option, Some, None, slice_get, IfSome, IsSomeAnd}
use Rattle.std.specs.{List.Contains, Option.option_and_then, Option.option_map}
use Rattle.dma_mem.specs.{Marking.MarkList, Places.sources, declared.regions.Region.Region}
use Rattle.dma_chan.specs.{declared.exec.Registers.Registers, Channel.ChannelValue, Channel.code_of, Programs.ProgramValue, Reads.Reads, Written.LiesIn}
use Rattle.dma_explain.specs.{declared.explain.Cause.TheVariants.NoMemory, declared.explain.Cause.TheVariants.TooLong, declared.explain.Explained.Explained}
use Rattle.dma_explain.specs.{Changes.Holds, Explains.Executes, Explains.Finds, Explains.Refuses, Explains.Work, Explains.work_of, Explains.written}
use Rattle.dma_device.specs.Accesses.{Access, Answer, Does, Happen, Restores, Turned, Turns}
use Rattle.dma_device.specs.CallSteps.{StepsThread, InTurn, marks_in}
use Rattle.dma_device.specs.Turns.{Setup, TakesTurn, machine_in, steps_in}
use Rattle.dma_device.specs.declared.device.explain.ExplainFault.TheVariants.{NoChannel, NoProgram, Unexplained}
use Rattle.dma_device.specs.{Device.DeviceValue, declared.device.explain.ExplainFault.ExplainFault, declared.device.turns.Turn.Turn}

-- channel n, if the device has it
abbrev pub channel_of : DeviceValue → ℕ → Option ChannelValue
channel_of d n = option_map (λ t. t.channel) (slice_get d.threads n)

-- the program of channel n, if the device has the channel and a program is loaded
abbrev pub program_of : DeviceValue → ℕ → Option ProgramValue
program_of d n = option_and_then (λ c. c.program) (channel_of d n)

-- Channel n has a program, and this is true of its registers and the program's bytes.
abbrev pub IsLoadedAnd : DeviceValue → ℕ → (Registers → List ℕ → Type 0) → Type 0
IsLoadedAnd d n P = IsSomeAnd (channel_of d n) (λ c. IsSomeAnd c.program (λ p. P c.registers p.bytes))

-- ---- what the device answers

-- What is found for channel n with a limit of instructions: a work that explains the channel's program, if it begins
-- with the registers that the channel has.
abbrev pub FindsFor : DeviceValue → ℕ → ℕ → Explained → Type 0
FindsFor d n limit x = IsLoadedAnd d n (λ start program. Finds start program limit x)

-- Why nothing is found for channel n: the device doesn't have the channel, the channel has no program, or the program
-- is refused with this limit of instructions. It is never too long.
abbrev pub FailsFor : DeviceValue → ℕ → ℕ → ExplainFault → Type 0
FailsFor d n most NoChannel = length d.threads ≤ n
FailsFor d n most NoProgram = (n < length d.threads) × (program_of d n ≡ None)
FailsFor d n most (Unexplained u) =
    IsLoadedAnd d n (λ start program. (u.cause ≢ TooLong) × (u.cause ≢ NoMemory → Refuses start program most u))

-- ---- the turns of a channel

-- one of the steps of a call of channel `n` reads an address
abbrev pub CallReads : MarkList → ℕ → ℕ → Bool → ℕ → Setup → Type 0
CallReads marks n a made most s =
    (x : StepsThread made n s) × Reads marks (machine_in s x.thread) (steps_in marks most x.thread s) a

-- one of the steps of a turn reads an address
abbrev pub TurnReads : DeviceValue → List Region → ℕ → ℕ → ℕ → Type 0
TurnReads d regions n most a = InTurn (CallReads (marks_in regions) n a) d regions n most

-- A turn stays in a work: it writes only what the work writes and reads only the sources of its copy.
pub record StaysIn (w : Work) (d : DeviceValue) (regions : List Region) (n most : ℕ) (turn : Turn) : Type 0 where
  pub writes : (a : ℕ) → LiesIn turn.written a → Contains (written w) a
  pub reads : (a : ℕ) → TurnReads d regions n most a → Contains (sources w.copy) a

-- Channel n executes its program from the program's start on, begun with the registers that it has now: of `steps`
-- instructions, with DMAEND, it has executed none or some, and not yet all. After a DMAGO it has executed none. Later
-- its registers are still such if the program sets each before it uses it.
abbrev pub IsUnderway : DeviceValue → ℕ → ℕ → Type 0
IsUnderway d n steps = IsSomeAnd (channel_of d n) (λ c. Executes c.registers (code_of c) (steps - 1) c)

-- An access gives channel n no program: it is a turn, or the channel is the same after it, or has no program.
abbrev pub GivesNone : Access → ℕ → DeviceValue → DeviceValue → Type 0
GivesNone (Turns m most) n d e = Unit {0}
GivesNone a n d e = (channel_of e n ≡ channel_of d n) ⊎ (program_of e n ≡ None)

-- A work was found for channel n, which is underway. Until an access gives it a program, each of its turns stays in the
-- work, whatever the guest, the processor and other channels do, and whatever regions each access is lent.
abbrev pub TurnsStayIn : Type 0
TurnsStayIn =
    (access : ℕ → Access) (answer : ℕ → Answer) (before : ℕ → DeviceValue) (lent left : ℕ → List Region)
    (count n k most limit : ℕ) (x : Explained) (turn : Turn) →
    Happen access answer before lent left count → FindsFor (before 0) n limit x → IsUnderway (before 0) n x.steps →
    ((j : ℕ) → j < k → GivesNone (access j) n (before j) (before (j + 1))) →
    k < count → access k ≡ Turns n most → answer k ≡ Turned turn →
    StaysIn (work_of x) (before k) (lent k) n most turn

-- After an access that isn't a restore and gives channel n a program, as a DMAGO does, the channel is underway in it.
abbrev pub OnlyDmagoGives : Type 0
OnlyDmagoGives =
    (a : Access) (d e : DeviceValue) (regions left : List Region) (answer : Answer) (n : ℕ) →
    Does a d regions answer e left → ((saved : DeviceValue) → a ≢ Restores saved) →
    GivesNone a n d e ⊎ ((steps : ℕ) → IsUnderway e n steps)

-- ---- the same from any later moment on, as after a migration

-- Channel n has a work: the device doesn't have the channel, or the channel has no program, or it executes one that the
-- work explains from the registers with which the program began. (So a channel without a program has every work.)
abbrev pub HasWork : Work → DeviceValue → ℕ → Type 0
HasWork w d n = IfSome (channel_of d n) (Holds (Some w))

-- A channel that is underway has the work that is found for it.
abbrev pub UnderwayHasWork : Type 0
UnderwayHasWork =
    (d : DeviceValue) (n limit : ℕ) (x : Explained) → FindsFor d n limit x → IsUnderway d n x.steps →
    HasWork (work_of x) d n

-- Each access that gives the channel no program, as a turn, keeps its work. (`IsUnderway` needn't stay: a turn may
-- change registers with which the program began.)
abbrev pub WorkStays : Type 0
WorkStays =
    (w : Work) (a : Access) (d e : DeviceValue) (regions left : List Region) (answer : Answer) (n : ℕ) →
    Does a d regions answer e left → GivesNone a n d e → HasWork w d n → HasWork w e n

-- A restore leaves each channel as it was in the saved device, with its work, whatever the device was before.
abbrev pub RestoreKeepsWork : Type 0
RestoreKeepsWork =
    (w : Work) (saved d e : DeviceValue) (regions left : List Region) (answer : Answer) (n steps : ℕ) →
    Does (Restores saved) d regions answer e left →
    (IsUnderway saved n steps → IsUnderway e n steps) × (HasWork w saved n → HasWork w e n)

-- Each turn of a channel stays in its work.
abbrev pub TurnStaysInWork : Type 0
TurnStaysInWork =
    (w : Work) (d e : DeviceValue) (regions left : List Region) (n most : ℕ) (turn : Turn) →
    HasWork w d n → TakesTurn d regions n most e left turn → StaysIn w d regions n most turn
