-- What `why` names.
use Rattle.std.specs.Prelude.{◌≡◌, ◌≢◌, ◌<◌, ◌⊎◌, ℕ, Some, IsSome, Result, Ok, Err, List, [], map}
use Rattle.std.specs.List.{All, AllPairs, Contains}
use Rattle.dma_mem.specs.declared.call.Call.TheVariants.{Step}
use Rattle.dma_engine.specs.declared.turn.Turn.TheVariants.{Halted, Nothing, Paused, Waiting}
use Rattle.dma_engine.specs.View.{View, channels, object_of, schedule_at}
use Rattle.dma_engine.specs.{declared.call.Reply.Reply, declared.fault.EngineFault.EngineFault, declared.fault.EngineFault.TheVariants.StepsSpent}
use Rattle.dma_engine.specs.{declared.turn.Turn.Turn, Answer.AreAnswers, Object.channel, Object.unfinished, Room.IsIdle, Turn.turn}
use Rattle.dma_script.specs.{Statements.run_script_of, declared.statements.RunScript.RunScript}
use Rattle.dma_commands.specs.Left.{view_after}
use Rattle.dma_why.specs.Circles.{IsCircle, IsWay, circle_from}
use Rattle.dma_why.specs.{declared.waits.Cookie.Cookie, declared.waits.Wait.Wait, Waits.signallers, Waits.waits_of}

-- What is named as a circle is one, on which no channel is twice; and for each circle one with the same lowest channel
-- is named.
pub record CirclesAreNamed : Type 0 where
  pub only : (v : View) (first : ℕ) (circle : List Wait) →
      circle_from (waits_of v) (channels v) first ≡ Some circle →
      IsCircle (waits_of v) first circle × AllPairs (λ x y. x.ch ≢ y.ch) circle
  pub all : (v : View) (first : ℕ) (circle : List Wait) → IsCircle (waits_of v) first circle →
      (first < channels v) × IsSome (circle_from (waits_of v) (channels v) first)

-- The next step of a channel changes nothing, and its state and schedule are what they were.
pub record IsStill (old new : View) (ch : ℕ) : Type 0 where
  pub idle : IsIdle (turn new ch).0
  pub state : channel (object_of new) ch ≡ channel (object_of old) ch
  pub schedule : schedule_at new ch ≡ schedule_at old ch

-- No steps, of any channels, move a channel of a circle.
abbrev pub CirclesStay : View → Type 0
CirclesStay v =
    (w : View) (first : ℕ) (circle : List Wait) (steps : List ℕ) (replies : List Reply)
    → IsCircle (waits_of v) first circle → AreAnswers v (map Step steps) replies w
    → All (λ wait. IsStill v w wait.ch) circle

-- After a script without a fault, no steps, of any channels, move a channel of a circle.
pub record CirclesStayAfter (input : List ℕ) : Type 0 where
  pub stay : (script : RunScript) → run_script_of input ≡ Ok script → CirclesStay (view_after script)

-- There is none of these cookies, or they are on several channels.
abbrev pub AreNotOnOneChannel : List Cookie → Type 0
AreNotOnOneChannel found =
    (found ≡ []) ⊎ ((a : Cookie) × (b : Cookie) × Contains found a × Contains found b × (a.ch ≢ b.ch))

-- A channel whose next step has this result doesn't move, and not because it waits for another: it is paused, halted or
-- not issued; its event is one that no unfinished cookie would signal, or cookies of several channels would; or the
-- step count is at its end.
abbrev pub IsCause : View → ℕ → Result Turn EngineFault → Type 0
IsCause v ch (Ok Paused) = Unit {0}
IsCause v ch (Ok Halted) = Unit {0}
IsCause v ch (Ok Nothing) = 0 < unfinished (channel (object_of v) ch)
IsCause v ch (Ok (Waiting event)) = AreNotOnOneChannel (signallers (object_of v) event)
IsCause v ch (Err StepsSpent) = Unit {0}
IsCause v ch _ = ⊥

-- Waits lead from a channel to one with a cause, or from which a circle is named.
pub record LeadsToCause (v : View) (ch : ℕ) : Type 0 where
  pub end : ℕ
  pub way : List Wait
  pub waits : All (Contains (waits_of v)) way
  pub leads : IsWay ch end way
  pub cause : IsCause v end (turn v end).0 ⊎ IsSome (circle_from (waits_of v) (channels v) end)

-- If no channel's step changes anything, waits lead from each channel with an unfinished cookie to a cause.
abbrev pub CausesAreNamed : Type 0
CausesAreNamed =
    (v : View) → ((ch : ℕ) → IsIdle (turn v ch).0) → (ch : ℕ) → 0 < unfinished (channel (object_of v) ch)
    → LeadsToCause v ch
