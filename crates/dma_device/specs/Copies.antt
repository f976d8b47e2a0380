-- What a program that a DMAGO starts copies and sets to 0, if a work explains it.
use Rattle.std.specs.Prelude.{◌≡◌, ◌≢◌, ℕ, ◌+◌, ◌<◌, ◌≤◌, Bool, false, nat_eq, List, length, slice_index, IsTrue}
use Rattle.std.specs.List.{Contains, count_by}
use Rattle.dma_mem.specs.{Places.destinations, Places.size_of, Places.sources, Regions.in_order, Regions.pieces_of, declared.regions.Region.Region}
use Rattle.dma_explain.specs.Explains.{IsAtLeast, IsSignal, IsWait, Work, cleared, events_in}
use Rattle.dma_explain.specs.declared.explain.EventSync.TheVariants.{Signals, Waits}
use Rattle.dma_explain.specs.{Changes.HasFirst, Changes.bytes_in}
use Rattle.dma_explain.specs.{declared.explain.Amounts.Amounts, declared.explain.EventSync.EventSync, RegionsHave.HaveAll, Works.IsWorked}
use Rattle.dma_chan.specs.declared.exec.Registers.{Registers}
use Rattle.dma_device.specs.Dmago.{Go, RunsCopy, GivenTurns, csr_status, image_in, start_of}
use Rattle.dma_device.specs.{Device.DeviceValue, Device.irqs, Interrupts.HasLine, Interrupts.IsHigh, Interrupts.TurnSignals}

-- Once the channel's CSR reads as stopped after a turn, the work is done from the memory at the first turn.
abbrev pub DmagoCopies : Type 0
DmagoCopies =
    (go : Go) (w : Work) (n : ℕ) (run : GivenTurns) → RunsCopy go w n run →
    (k : ℕ) → k < run.count → csr_status (run.after k) go.channel ≡ 0 →
    IsWorked w (image_in (run.lent 0)) (image_in (run.left k))

-- Line i rose in turn number k: it was low before the turn and high after it.
pub record Rises (run : GivenTurns) (i k : ℕ) : Type 0 where
  pub line : HasLine (run.before k) i
  pub low : ¬ IsHigh (irqs (run.before k)) i
  pub high : IsHigh (irqs (run.after k)) i

-- line i rose in one of the turns up to number k
pub record HasRisen (run : GivenTurns) (i k : ℕ) : Type 0 where
  pub turn : ℕ
  pub early : turn ≤ k
  pub rises : Rises run i turn

-- The first destinations of a work have the bytes that their sources had in the memory at first, the first addresses
-- that it sets to 0 have 0, and each source has the byte that it had.
pub record AreDone (w : Work) (least : Amounts) (first memory : List ℕ) : Type 0 where
  pub copied : (p : ℕ) → p < least.copied → p < size_of w.copy →
      slice_index memory (slice_index (destinations w.copy) p) ≡ slice_index first (slice_index (sources w.copy) p)
  pub zeros : (p : ℕ) → p < least.cleared → p < length (cleared w) →
      slice_index memory (slice_index (cleared w) p) ≡ 0
  pub kept : (a : ℕ) → Contains (sources w.copy) a → slice_index memory a ≡ slice_index first a

-- Once line i rose in a turn, `least` is done, if the program does as much before each of its DMASEVs of event i.
abbrev pub DmagoInterrupts : Type 0
DmagoInterrupts =
    (go : Go) (w : Work) (n : ℕ) (run : GivenTurns) (i : ℕ) (least : Amounts) → RunsCopy go w n run →
    ((done : Amounts) → IsSignal (start_of go) go.program n i done → IsAtLeast least done) →
    (k : ℕ) → k < run.count → HasRisen run i k → AreDone w least (image_in (run.lent 0)) (image_in (run.left k))

-- whether what an instruction does with an event is to signal event e
abbrev pub is_signal_of : ℕ → EventSync → Bool
is_signal_of e (Signals d) = nat_eq d e
is_signal_of e (Waits d) = false

-- the number of DMASEVs of event e among a program's first n instructions
abbrev pub signals_in : Registers → List ℕ → ℕ → ℕ → ℕ
signals_in start program e n = count_by (λ h. is_signal_of e h.sync) (events_in start program n)

-- One of a program's first n instructions is its DMASEV number j of event e, counted from 0, and the program has
-- copied and set to 0 these numbers of bytes before it.
pub record IsSignalNumber (start : Registers) (program : List ℕ) (n e j : ℕ) (done : Amounts) : Type 0 where
  pub signal : IsSignal start program n e done
  pub number : signals_in start program e signal.step ≡ j

-- Line i rose in turns with these numbers, each later than the one before, up to the one of index j.
pub record RisesInEach (run : GivenTurns) (i j : ℕ) (turn : ℕ → ℕ) : Type 0 where
  pub rises : (l : ℕ) → l ≤ j → Rises run i (turn l)
  pub later : (l : ℕ) → l < j → turn l < turn (l + 1)

-- Once line i rose j + 1 times, in turns up to `turn j`, at least as much is done as before DMASEV number j of event i,
-- and so it is after each later turn. (Between two of these turns something cleared the line, as a handler does.)
abbrev pub DmagoInterruptsEach : Type 0
DmagoInterruptsEach =
    (go : Go) (w : Work) (n : ℕ) (run : GivenTurns) (i j : ℕ) (done : Amounts) (turn : ℕ → ℕ) →
    RunsCopy go w n run → IsSignalNumber (start_of go) go.program n i j done → RisesInEach run i j turn →
    (k : ℕ) → turn j ≤ k → k < run.count → AreDone w done (image_in (run.lent 0)) (image_in (run.left k))

-- ---- no more than before a DMASEV

-- What a program does before one of its DMASEVs of event i is done, and no more: the first destinations of the work
-- have the bytes of their sources, the first of its zeros are 0, and each other address that it uses is as in the
-- memory at first.
pub record IsDoneToSignal (go : Go) (w : Work) (n i : ℕ) (first memory : List ℕ) : Type 0 where
  pub done : Amounts
  pub signal : IsSignal (start_of go) go.program n i done
  pub bytes : HasFirst w done (bytes_in first) (bytes_in memory)

-- So it is after each turn of the channel that executes a DMASEV of event i. (If one more step follows the DMASEV of an
-- interrupt, it is no store.)
abbrev pub DmagoSignalsExactly : Type 0
DmagoSignalsExactly =
    (go : Go) (w : Work) (n : ℕ) (run : GivenTurns) (i k : ℕ) → RunsCopy go w n run → k < run.count →
    TurnSignals (run.before k) (run.lent k) go.channel (run.most k) i →
    IsDoneToSignal go w n i (image_in (run.lent 0)) (image_in (run.left k))

-- So it is also after each turn of the channel in which line i rose.
abbrev pub DmagoInterruptsExactly : Type 0
DmagoInterruptsExactly =
    (go : Go) (w : Work) (n : ℕ) (run : GivenTurns) (i k : ℕ) → RunsCopy go w n run → k < run.count →
    Rises run i k → IsDoneToSignal go w n i (image_in (run.lent 0)) (image_in (run.left k))

-- ---- without a failure

-- A device has each event of a program's DMAWFEs and DMASEVs.
pub record DeviceHasEvents (d : DeviceValue) (go : Go) (n : ℕ) : Type 0 where
  pub waits : (e : ℕ) → IsWait (start_of go) go.program n e → e < d.config.events
  pub signals : (e : ℕ) (done : Amounts) → IsSignal (start_of go) go.program n e done → e < d.config.events

-- A device and the regions that a turn is lent are fit for a program: the regions are in order and contain all
-- addresses that the work uses, none that it writes is read-only, and the device has the program's events.
pub record IsFit (go : Go) (w : Work) (n : ℕ) (d : DeviceValue) (regions : List Region) : Type 0 where
  pub order : IsTrue (in_order (pieces_of regions))
  pub have : HaveAll regions w
  pub events : DeviceHasEvents d go n

-- If the device and the regions are fit in each turn, then the channel's CSR never reads as faulting after a turn.
abbrev pub DmagoNeverFails : Type 0
DmagoNeverFails =
    (go : Go) (w : Work) (n : ℕ) (run : GivenTurns) → RunsCopy go w n run →
    ((k : ℕ) → k < run.count → IsFit go w n (run.before k) (run.lent k)) →
    (k : ℕ) → k < run.count → csr_status (run.after k) go.channel ≢ 15
