-- Turns of several jobs, taken one after another in some order. A turn is a step of a channel.
use Rattle.std.specs.Prelude.{◌≡◌, ◌==◌, ℕ, ◌+◌, ◌-◌, ◌%◌, zero, suc, if◌then◌else◌, Result, List, [], ◌∷◌, ◌++◌, slice_index_or}
use Rattle.dma_engine.specs.{declared.fault.EngineFault.EngineFault, declared.turn.Turn.Turn, Turn.turn, View.View}

-- the channel of a job's turn k, where turns count from 0: the first channel up to the last one, over and over
abbrev pub channel_at : ℕ → ℕ → ℕ → ℕ
channel_at first last k = first + k % (last - first + 1)

-- the channels of this number of turns, in order
abbrev pub rotation : ℕ → ℕ → ℕ → List ℕ
rotation first last zero = []
rotation first last (suc n) = rotation first last n ++ channel_at first last n ∷ []

-- A turn: the number of the job that takes it, from 0, and the channel that it steps.
pub record JobTurn : Type 0 where
  pub job : ℕ
  pub channel : ℕ

-- the channels that the turns of job k step, in order
abbrev pub channels_of : ℕ → List JobTurn → List ℕ
channels_of k [] = []
channels_of k (t ∷ turns) = if t.job == k then t.channel ∷ channels_of k turns else channels_of k turns

-- The turns are an interleaving of jobs that step these channels: job k steps those of item k, in their order, and a
-- number that has no item takes no turn.
abbrev pub Interleaves : List (List ℕ) → List JobTurn → Type 0
Interleaves jobs turns = (k : ℕ) → channels_of k turns ≡ slice_index_or jobs k []

-- the results of turns that are taken in order from this view on, and the view after them
abbrev pub turns_taken : View → List JobTurn → List (Result Turn EngineFault) × View
turns_taken v [] = ([], v)
turns_taken v (t ∷ turns) =
    let rest = turns_taken (turn v t.channel).1 turns in ((turn v t.channel).0 ∷ rest.0, rest.1)
