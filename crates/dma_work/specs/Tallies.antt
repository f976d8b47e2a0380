-- The tallies of jobs.
use Rattle.std.specs.Prelude.{◌≡◌, ℕ, ◌<◌, length, slice_index_or, List}
use Rattle.dma_engine.specs.{Interleaved.rotation, View.View}
use Rattle.dma_work.specs.{declared.job.Job.Job, Desk.DeskState, Desk.TakesAStep, Desk.TallyCounts, Desk.new_tally, Rotation.StepsInTurn}

-- A new worker with this number took the turns of a job at a lender, one after another. Its tally and the lender
-- afterwards are `tally` and `left`. In a turn the worker passes the gate, as `passes` says of the worker and the
-- turn's number, and steps the desk that it is lent.
pub record TookTurnsAt
    {L : Type 0} (opening : View) (passes : ℕ → ℕ → Type 0) (lends : L → DeskState → DeskState → L → Type 0)
    (worker : ℕ) (job : Job) (lender left : L) (tally : TallyCounts)
    : Type 0 where
  pub number : tally.worker ≡ worker
  pub count : tally.turns ≡ job.turns
  pub steps : StepsInTurn (TakesAStep opening passes lends) (rotation job.first job.last job.turns)
      (record { lender = lender; tally = new_tally worker }) (record { lender = left; tally = tally })

-- a lender that may lend any desk in any turn, as far as is known
abbrev pub any_desk : Unit {0} → DeskState → DeskState → Unit {0} → Type 0
any_desk before lent back after = Unit {0}

-- A new worker with this number took the turns of a job at a lender of which nothing is known.
abbrev pub TookTurns : View → (ℕ → ℕ → Type 0) → ℕ → Job → TallyCounts → Type 0
TookTurns opening passes worker job tally = TookTurnsAt opening passes any_desk worker job tt tt tally

-- Tally i is that of a new worker i that took the turns of job i.
abbrev pub AreTallies : View → (ℕ → ℕ → Type 0) → List TallyCounts → List Job → Type 0
AreTallies opening passes tallies jobs =
    (i : ℕ) (t : TallyCounts) (j : Job) → i < length jobs
    → TookTurns opening passes i (slice_index_or jobs i j) (slice_index_or tallies i t)
