-- The turns of a worker, at its lender and at one of which nothing is known.
use Rattle.std.proofs.Common.{◌≡◌, ℕ, ◌+◌, List, [], ◌∷◌, ap, ◌∙◌, subst, zero-add}
use Rattle.dma_engine.specs.{Interleaved.rotation, View.View}
use Rattle.dma_work.specs.Desk.{DeskState, TakesAStep, TallyCounts, WorkerState, new_tally}
use Rattle.dma_work.specs.{declared.job.Job.Job, Rotation.StepsInTurn, Tallies.TookTurns, Tallies.TookTurnsAt, Tallies.any_desk}

module _ {L : Type 0} (opening : View) (passes : ℕ → ℕ → Type 0) (lends : L → DeskState → DeskState → L → Type 0) where
  -- a new worker that took the turns of a job, and what is left of it
  pub took : (worker : ℕ) (job : Job) (w x : WorkerState L) → w.tally ≡ new_tally worker → x.tally.worker ≡ w.tally.worker
      → x.tally.turns ≡ w.tally.turns + job.turns → StepsInTurn (TakesAStep opening passes lends) (rotation job.first job.last job.turns) w x
      → TookTurnsAt opening passes lends worker job w.lender x.lender x.tally
  took worker job w x fresh number count steps = record {
    number = number ∙ ap (λ (t : TallyCounts). t.worker) fresh;
    count = count ∙ ap (λ (t : TallyCounts). t.turns + job.turns) fresh ∙ zero-add job.turns;
    steps = subst (λ t. StepsInTurn (TakesAStep opening passes lends) (rotation job.first job.last job.turns) (record { lender = w.lender; tally = t }) x) fresh
        steps;
  }

  -- steps at a lender of which nothing is known
  steps_at_any : (xs : List ℕ) (a b : WorkerState L) → StepsInTurn (TakesAStep opening passes lends) xs a b
      → StepsInTurn (TakesAStep opening passes any_desk) xs (record { lender = tt; tally = a.tally }) (record { lender = tt; tally = b.tally })
  steps_at_any [] a b same = ap (λ (w : WorkerState L). record { lender = tt; tally = w.tally }) same
  steps_at_any (x ∷ xs) a b (mid, (passed, (d, e, lent, counts)), rest) =
      (record { lender = tt; tally = mid.tally }, (passed, (d, e, tt, counts)), steps_at_any xs mid b rest)

  pub took_at_any : (worker : ℕ) (job : Job) (lender left : L) (tally : TallyCounts) → TookTurnsAt opening passes lends worker job lender left tally
      → TookTurns opening passes worker job tally
  took_at_any worker job lender left tally t =
      record { number = t.number; count = t.count; steps = steps_at_any (rotation job.first job.last job.turns) _ _ t.steps }
