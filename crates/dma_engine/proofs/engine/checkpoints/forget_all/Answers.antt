use Rattle.std.proofs.Common.{arith}
use Rattle.dma_engine.proofs.Checkpoint.{at_next_law, set_next_law}
use Rattle.dma_engine.proofs.engine.checkpoints.forget_all.Goals as goal

pub loop-queue-preserved : goal.loop-queue-preserved
loop-queue-preserved c = grind (arith, at_next_law, set_next_law)
