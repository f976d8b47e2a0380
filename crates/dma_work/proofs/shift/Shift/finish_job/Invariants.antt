use Rattle.std.proofs.Common.{◌-◌}
use Rattle.dma_work.specs.inner.InTurn.{GoesOn, HasLeft}
use Rattle.dma_work.proofs.shift.Shift.finish_job.Given as goal

abbrev pub invariant-loop : goal.invariant-loop
invariant-loop g l = record {
  left : HasLeft l.worker (l.left - l.counter) l.self.seats;
  goes_on : GoesOn l.fn.self l.self;
}
