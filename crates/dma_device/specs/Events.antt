-- Events are neither lost nor invented: what sets them, and what takes them.
use Rattle.std.specs.Prelude.{◌≡◌, ℕ, ◌<◌, ◌≤◌, Bool, true, List, Some, Ok, slice_get}
use Rattle.dma_insn.specs.declared.chip.ChipInsn.TheVariants.{Wfe}
use Rattle.dma_mem.specs.{Marking.MarkList, declared.regions.Region.Region}
use Rattle.dma_chan.specs.{Channel.ahead_of, Stepping.answer_at, declared.turn.ChanTurn.TheVariants.Moved}
use Rattle.dma_device.specs.Accesses.{Access, Answer, Does, Happen, IsExact, Restores, Turns}
use Rattle.dma_device.specs.{declared.device.turns.Turn.Turn, declared.thread.Status.TheVariants.WaitingForEvent, declared.thread.Thread.Thread}
use Rattle.dma_device.specs.{CallSteps.StepsThread, CallSteps.InTurn, CallSteps.machine_after, CallSteps.marks_in, Device.DeviceValue}
use Rattle.dma_device.specs.{Interrupts.Clears, Interrupts.HasLine, Interrupts.IsHigh, Interrupts.Signals, Turns.Setup, Turns.TakesTurn, Turns.begins, Turns.steps_in}

-- event k is set
abbrev pub IsSet : DeviceValue → ℕ → Type 0
IsSet d k = IsHigh d.events k

-- event k is set, and INTEN makes it an event: channels see it
abbrev pub IsVisible : DeviceValue → ℕ → Type 0
IsVisible d k = HasLine d k × (IsSet d k × (¬ IsHigh d.inten k))

-- ---- what sets and takes an event

-- An access sets event k: it executes a DMASEV of event k while bit k of INTEN is 0; or it restores a device in which
-- the event is set.
abbrev pub Sets : ℕ → Access → DeviceValue → List Region → Type 0
Sets k (Restores saved) d regions = IsSet saved k
Sets k a d regions = (¬ IsHigh d.inten k) × Signals k a d regions

-- one of the steps of a call of channel `n` executes a DMAWFE of event k, which passes
pub record CallTakes (marks : MarkList) (n k : ℕ) (made : Bool) (most : ℕ) (s : Setup) : Type 0 where
  pub executes : StepsThread made n s
  pub step : ℕ
  pub early : step < steps_in marks most executes.thread s
  pub invalid : Bool
  pub dmawfe : ahead_of (machine_after marks s executes.thread step).channel ≡ Ok (Wfe k invalid)
  pub passes : answer_at marks (machine_after marks s executes.thread step) ≡ Moved

-- one of the steps of a turn executes a DMAWFE of event k, which passes
abbrev pub TurnTakes : DeviceValue → List Region → ℕ → ℕ → ℕ → Type 0
TurnTakes d regions n most k = InTurn (CallTakes (marks_in regions) n k) d regions n most

-- an access takes event k: a turn of a channel
abbrev pub Takes : ℕ → Access → DeviceValue → List Region → Type 0
Takes k (Turns n most) d regions = TurnTakes d regions n most k
Takes k a d regions = ⊥

-- An access ends event k: a turn takes the event; a write to INTCLR with bit k clears it, while bit k of INTEN is 1; a
-- reset; or a restore of a device in which the event isn't set.
abbrev pub Ends : ℕ → Access → DeviceValue → List Region → Type 0
Ends k (Restores saved) d regions = ¬ IsSet saved k
Ends k (Turns n most) d regions = TurnTakes d regions n most k
Ends k a d regions = Clears k a d

-- ---- along the accesses

-- For every list of accesses, event k is set before access number n exactly if an access set it, and none after it
-- ended it; or if it was set at first, as it is not after a reset, and no access ended it. (A turn that takes an event
-- and then sets it leaves it set.) Each access may be lent other regions.
abbrev pub EventsAreExact : Type 0
EventsAreExact =
    (access : ℕ → Access) (answer : ℕ → Answer) (before : ℕ → DeviceValue) (lent left : ℕ → List Region)
    (count k n : ℕ) →
    Happen access answer before lent left count → HasLine (before 0) k → n ≤ count →
    IsExact (λ j. IsSet (before j) k) (λ j. Sets k (access j) (before j) (lent j))
    (λ j. Ends k (access j) (before j) (lent j)) n

-- No wake-up is invented: an event that an access takes was set before it, and INTEN made it an event.
abbrev pub TakenWasSet : Type 0
TakenWasSet =
    (a : Access) (d e : DeviceValue) (regions left : List Region) (answer : Answer) (k : ℕ) →
    Does a d regions answer e left → HasLine d k → Takes k a d regions → IsSet d k × (¬ IsHigh d.inten k)

-- No wake-up is lost: after a turn of a channel that runs, if the channel waits for event k, then the event isn't set,
-- or INTEN makes it an interrupt.
abbrev pub WaitsForUnset : Type 0
WaitsForUnset =
    (d e : DeviceValue) (regions left : List Region) (n most k : ℕ) (turn : Turn) (t : Thread) →
    TakesTurn d regions n most e left turn → HasLine d k → begins d n most ≡ true →
    slice_get e.threads n ≡ Some t → t.status ≡ WaitingForEvent k → IsSet e k → IsHigh e.inten k
