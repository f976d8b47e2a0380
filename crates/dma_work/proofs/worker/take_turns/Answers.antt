use Rattle.std.proofs.Common.{arith, subst, sym, add-one}
use Rattle.dma_engine.proofs.Interleavings.{channel_again, channel_next}
use Rattle.dma_work.proofs.{Rotations.one_more, worker.take_turns.Goals.then-ch-job, worker.take_turns.Goals.else-ch-job}
use Rattle.dma_work.proofs.worker.take_turns.Goals as goal

pub turn-requires-in-loop-n-clause-passed : goal.turn-requires-in-loop-n-clause-passed
turn-requires-in-loop-n-clause-passed g c = grind (arith, sym, arith, subst)

pub loop-n-preserved : goal.loop-n-preserved
loop-n-preserved g c = grind (arith, subst, then-ch-job, channel_next, arith, else-ch-job, channel_again, add-one, one_more)
