use Rattle.std.proofs.Common.{arith}
use Rattle.dma_engine.proofs.Interleavings.{channel_again, channel_next}
use Rattle.dma_work.proofs.seat.Seat.after.Goals as goal
use Rattle.dma_work.proofs.seat.Seat.after.Goals.{then-next-job, else-next-job}

pub invariant_of-result-clause-there : goal.invariant_of-result-clause-there
invariant_of-result-clause-there c = grind (arith, then-next-job, channel_next, arith, else-next-job, channel_again)
