use Rattle.std.proofs.Common.{◌≡◌, ◌+◌, take}
use Rattle.dma_work.specs.Desk.{finishes_of, steps_of}
use Rattle.dma_work.proofs.worker.Totals.are_sums_of.Given as goal

abbrev pub invariant-loop-tally : goal.invariant-loop-tally
invariant-loop-tally g l = record {
  steps : steps_of (take l.tally-index l.tallies) + l.steps ≡ l.self.steps;
  finishes : finishes_of (take l.tally-index l.tallies) + l.finishes ≡ l.self.finished;
}
