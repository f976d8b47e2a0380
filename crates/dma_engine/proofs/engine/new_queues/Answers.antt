use Rattle.std.proofs.Common.{arith}
use Rattle.std.proofs.lemmas.List.{replicate_more}
use Rattle.dma_engine.proofs.engine.new_queues.Goals as goal

pub loop-n-preserved : goal.loop-n-preserved
loop-n-preserved c = grind (arith, replicate_more)
