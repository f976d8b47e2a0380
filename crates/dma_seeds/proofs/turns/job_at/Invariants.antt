-- The place is counted from the job at the index on.
use Rattle.std.proofs.Common.{◌≡◌, ◌+◌, ◌<◌, drop}
use Rattle.dma_seeds.specs.Turns.{job_at, total_left}
use Rattle.dma_seeds.proofs.turns.job_at.Given as goal

abbrev pub invariant-loop-at : goal.invariant-loop-at
invariant-loop-at l = record {
  within : l.place < total_left (drop l.at l.jobs);
  same : job_at l.fn.jobs l.fn.place ≡ l.at + job_at (drop l.at l.jobs) l.place;
}
