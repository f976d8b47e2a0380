-- The invariant of a shift, and what stays as the turns that are left are taken.
use Rattle.std.specs.Prelude.{◌≡◌, ℕ, ◌+◌, ◌<◌, Bool, true, List, length, slice_index_or}
use Rattle.dma_engine.specs.View.{View}
use Rattle.dma_work.specs.{declared.job.Job.Job, declared.seat.Seat.Seat, declared.worker.Totals.Totals}
use Rattle.dma_work.specs.Shift.{HasNoTurn, IsInTurn, NeedsMemory, ShiftState}

-- The invariant of a shift, for the opening view and the jobs that its name has. Nothing was done but the turns that the
-- seats count. If a turn was out of memory, the next turn of some worker's job takes memory.
pub record IsAtWork
    (opening : View) (jobs : List Job) (view : View) (book : Totals) (seats : List Seat) (is_starved : Bool)
    : Type 0 where
  pub in_turn : IsInTurn opening jobs view book seats
  pub starved : is_starved ≡ true → (worker : ℕ) × NeedsMemory worker view seats

-- A worker's job has this many turns left, if there is such a worker.
abbrev pub HasLeft : ℕ → ℕ → List Seat → Type 0
HasLeft worker left seats =
    (s : Seat) → worker < length seats
    → (slice_index_or seats worker s).taken + left ≡ (slice_index_or seats worker s).job.turns

-- What stays of a shift as turns are taken: that a turn was out of memory, that a worker has no turn left, and how many
-- workers there are.
pub record GoesOn (old new : ShiftState) : Type 0 where
  pub starved : old.is_starved ≡ true → new.is_starved ≡ true
  pub done : (worker : ℕ) → HasNoTurn worker old.seats → HasNoTurn worker new.seats
  pub many : length new.seats ≡ length old.seats
