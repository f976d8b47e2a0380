-- A program that copies, and that a DMAGO starts, finishes.
use Rattle.std.specs.Prelude.{◌≡◌, ◌≢◌, ℕ, zero, suc, ◌+◌, ◌-◌, ◌<◌, ◌≤◌, ◌==◌, ◌&&◌, ◌||◌, not, Bool, true, false, Some, Result, Ok, IfSome, slice_get}
use Rattle.std.specs.{Int.bit_at, Option.option_map_or}
use Rattle.dma_insn.specs.{ControlWord.flag, declared.chip.ChipInsn.ChipInsn, declared.chip.ChipInsn.TheVariants.Wfe}
use Rattle.dma_mem.specs.{Places.Descriptor, Rules.IsTransfer}
use Rattle.dma_chan.specs.{Channel.ahead_of, Compiled.compiled_on, Compiled.cost_on, declared.turn.FaultKind.FaultKind}
use Rattle.dma_explain.specs.Explains.{IsIn, IsSignal, IsWait, Work, all_of, only}
use Rattle.dma_explain.specs.declared.explain.Amounts.{Amounts}
use Rattle.dma_device.specs.Dmago.{Go, RunsCopy, GivenTurns, bus_of, csr_status, start_of}
use Rattle.dma_device.specs.{Copies.DeviceHasEvents, Copies.IsFit, Device.DeviceValue, Device.irqs, Events.IsVisible, Idle.IsAtWait, Interrupts.HasLine}
use Rattle.dma_device.specs.{Interrupts.IsHigh, Thread.runs, Turns.visible_events, declared.thread.Thread.Thread}

-- If the channel's next instruction is a DMAWFE, and it has executed at least `least` instructions before, then it
-- doesn't wait: the event is set, and INTEN makes it an event.
abbrev pub MayPass : Go → ℕ → DeviceValue → ℕ → Type 0
MayPass go n d least =
    (th : Thread) (e : ℕ) (wait : IsWait (start_of go) go.program n e) → slice_get d.threads go.channel ≡ Some th →
    IsIn (start_of go) go.program n wait.step th.channel → least ≤ wait.step → IsVisible d e

-- Turn number k is ready: it may take a step, and doesn't begin at a DMAWFE that waits, if the channel has executed at
-- least `least` instructions before.
pub record IsReady (go : Go) (n : ℕ) (run : GivenTurns) (k least : ℕ) : Type 0 where
  pub some : 1 ≤ run.most k
  pub passes : MayPass go n (run.before k) least

-- Some turns are ready, in rising order: number `turn 0` to number `turn n`, as many as the program executes
-- instructions with its DMAEND. Until the program ends, each executes at least one, so at least j come before number
-- `turn j`. The other turns may be any.
pub record ReadyTurns (go : Go) (n : ℕ) (run : GivenTurns) : Type 0 where
  pub turn : ℕ → ℕ
  pub rising : (j : ℕ) → j < n → turn j < turn (j + 1)
  pub ready : (j : ℕ) → j ≤ n → IsReady go n run (turn j) j

-- If the device and the regions are fit in each turn, and these turns are ready, then the channel's CSR reads as
-- stopped after the last of them, and from then on. (By `DmagoCopies` the work is then done.)
abbrev pub DmagoFinishes : Type 0
DmagoFinishes =
    (go : Go) (w : Work) (n : ℕ) (run : GivenTurns) → RunsCopy go w n run →
    ((k : ℕ) → k < run.count → IsFit go w n (run.before k) (run.lent k)) →
    (ready : ReadyTurns go n run) →
    (k : ℕ) → ready.turn n ≤ k → k < run.count → csr_status (run.after k) go.channel ≡ 0

-- ---- a host that knows nothing of programs

-- whether an instruction is a DMAWFE of an event whose flag is clear
abbrev pub is_clear_wait : ℕ → Result ChipInsn FaultKind → Bool
is_clear_wait flags (Ok (Wfe e invalid)) = not (bit_at flags e == 1)
is_clear_wait flags next = false

-- Whether thread n runs, and its next instruction is a DMAWFE of an event that isn't set, or that INTEN makes an
-- interrupt. By `VainTurnsWait` and `WaitsInVain` such a turn of at least one step only waits, if the device has the
-- event, as in `IsFit`.
abbrev pub waits_in_vain : DeviceValue → ℕ → Bool
waits_in_vain d n =
    option_map_or (λ t. runs t && is_clear_wait (visible_events d) (ahead_of t.channel)) (slice_get d.threads n) false

-- whether turn number k of a channel begins so, or may take no step
abbrev pub is_vain : GivenTurns → ℕ → ℕ → Bool
is_vain run k channel = run.most k == 0 || waits_in_vain (run.before k) channel

-- how many of a channel's first k turns are vain
abbrev pub vain : GivenTurns → ℕ → ℕ → ℕ
vain run zero channel = 0
vain run (suc k) channel = vain run k channel + flag (is_vain run k channel)

-- If the device and the regions are fit in each turn, then as long as the channel's CSR doesn't read as stopped after a
-- turn, at most n of the turns up to this one aren't vain: may take a step, and don't begin at a DMAWFE that waits. So
-- after n + 1 such turns CSR reads as stopped, however many others there are.
abbrev pub TheLoopFinishes : Type 0
TheLoopFinishes =
    (go : Go) (w : Work) (n : ℕ) (run : GivenTurns) → RunsCopy go w n run →
    ((k : ℕ) → k < run.count → IsFit go w n (run.before k) (run.lent k)) →
    (k : ℕ) → k < run.count → csr_status (run.after k) go.channel ≢ 0 →
    k + 1 ≤ n + vain run (k + 1) go.channel

-- Each turn that begins so is at a DMAWFE as in `WaitsInVain`: if the device is sound, and the turn may take a step, it
-- changes only the thread's status and CPC.
abbrev pub VainTurnsWait : Type 0
VainTurnsWait =
    (go : Go) (w : Work) (n : ℕ) (run : GivenTurns) → RunsCopy go w n run →
    ((k : ℕ) → k < run.count → IsFit go w n (run.before k) (run.lent k)) →
    (k : ℕ) → k < run.count → waits_in_vain (run.before k) go.channel ≡ true →
    (t : Thread) × (event : ℕ) × IsAtWait (run.before k) go.channel t event

-- ---- its interrupts

-- the line of event i was high after one of the turns up to number k
pub record WasHigh (run : GivenTurns) (i k : ℕ) : Type 0 where
  pub turn : ℕ
  pub early : turn ≤ k
  pub high : IsHigh (irqs (run.after turn)) i

-- If the program has a DMASEV of event i, and INTEN makes it an interrupt in each turn, then once the channel's CSR
-- reads as stopped, line i was high after one of the turns. (By `InterruptsAreExact` it stays high until a write to
-- INTCLR clears it, a reset, or a restore of a device in which it is low.)
abbrev pub DmagoSignals : Type 0
DmagoSignals =
    (go : Go) (w : Work) (n : ℕ) (run : GivenTurns) (i : ℕ) (done : Amounts) → RunsCopy go w n run →
    IsSignal (start_of go) go.program n i done →
    ((k : ℕ) → k < run.count → HasLine (run.before k) i × IsHigh (run.before k).inten i) →
    (k : ℕ) → k < run.count → csr_status (run.after k) go.channel ≡ 0 → WasHigh run i k

-- ---- compiled programs

-- the program is a transfer's, compiled for its channel's bus
abbrev pub IsCompiled : Go → Descriptor → Type 0
IsCompiled go t = IsTransfer t × (go.program ≡ (compiled_on (bus_of go) t).bytes)

-- how many instructions it executes before its DMAEND
abbrev pub compiled_count : Go → Descriptor → ℕ
compiled_count go t = cost_on (bus_of go) t - 1

-- A device that has the events that a transfer waits for and signals has those of its compiled program.
abbrev pub CompiledHasEvents : Type 0
CompiledHasEvents =
    (go : Go) (t : Descriptor) (d : DeviceValue) → IsCompiled go t → IfSome t.wait (λ e. e < d.config.events) →
    IfSome t.signal (λ e. e < d.config.events) → DeviceHasEvents d go (compiled_count go t)

-- A compiled program waits only at its first instruction, so of its ready turns only the first needs a visible event.
-- (Here `before j` is the device before turn number `turn j` of `ReadyTurns`.)
abbrev pub CompiledGoesOn : Type 0
CompiledGoesOn =
    (go : Go) (t : Descriptor) (before : ℕ → DeviceValue) → IsCompiled go t → IfSome t.wait (IsVisible (before 0)) →
    (k : ℕ) → MayPass go (compiled_count go t) (before k) k

-- A compiled program has a DMASEV of the event that its transfer signals, and before each DMASEV it has stored all
-- bytes.
pub record CompiledSignals : Type 0 where
  pub has_sev : (go : Go) (t : Descriptor) (i : ℕ) → IsCompiled go t → t.signal ≡ Some i →
      IsSignal (start_of go) go.program (compiled_count go t) i (all_of (only t))
  pub all_stored : (go : Go) (t : Descriptor) (i : ℕ) (done : Amounts) → IsCompiled go t →
      IsSignal (start_of go) go.program (compiled_count go t) i done → done ≡ all_of (only t)
