-- A thread after a call of its channel, by the answer of the call's last step.
use Rattle.std.proofs.Common.{◌≡◌, ◌≢◌, ◌⊎◌, ℕ, ◌<◌, false, Option, Some, None, arith, inl, inr, refl}
use Rattle.std.proofs.lemmas.Bool.{lt-ltb}
use Rattle.dma_chan.specs.declared.turn.ChanTurn.TheVariants.{Moved, Waiting, Ended, Fault}
use Rattle.dma_chan.specs.{declared.turn.ChanTurn.ChanTurn, declared.turn.FaultKind.FaultKind}
use Rattle.dma_device.specs.{Thread.answer, Thread.is_faulting, Thread.is_stopped, declared.thread.Thread.Thread}

pub is_ended : (last : Option ChanTurn) → (last ≡ Some Ended) ⊎ (last ≢ Some Ended)
is_ended (Some Ended) = inl refl
is_ended last = inr (λ bad. cc)

pub answer_channel : (events : ℕ) (th : Thread) (last : Option ChanTurn) (signal : Option ℕ) → (answer events th last signal).channel ≡ th.channel
answer_channel events th (Some Moved) (Some e) = grind arith
answer_channel events th (Some (Waiting e)) signal = grind arith
answer_channel events th last signal = refl

pub answer_busy : (events : ℕ) (th : Thread) (last : Option ChanTurn) (signal : Option ℕ) → last ≢ Some Ended
    → is_stopped (answer events th last signal) ≡ false
answer_busy events th (Some Moved) (Some e) goes = grind arith
answer_busy events th (Some (Waiting e)) signal goes = grind arith
answer_busy events th (Some Ended) signal goes = absurd (goes refl)
answer_busy events th last signal goes = refl

pub answer_fine : (events : ℕ) (th : Thread) (last : Option ChanTurn) (signal : Option ℕ) → last ≢ None → ((kind : FaultKind) → last ≢ Some (Fault kind))
    → ((e : ℕ) → last ≡ Some (Waiting e) → e < events) → ((e : ℕ) → signal ≡ Some e → e < events) → is_faulting (answer events th last signal) ≡ false
answer_fine events th None signal some goes waits signals = absurd (some refl)
answer_fine events th (Some Moved) (Some e) some goes waits signals = rw (lt-ltb e events (signals e refl)) refl
answer_fine events th (Some (Waiting e)) signal some goes waits signals = rw (lt-ltb e events (waits e refl)) refl
answer_fine events th (Some (Fault kind)) signal some goes waits signals = absurd (goes kind refl)
answer_fine events th last signal some goes waits signals = refl
