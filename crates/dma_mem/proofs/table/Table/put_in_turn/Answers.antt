use Rattle.std.proofs.Common.{arith}
use Rattle.dma_mem.proofs.{ChunkImages.put_more}
use Rattle.dma_mem.proofs.table.Table.put_in_turn.Goals as goal

pub loop-done-preserved : goal.loop-done-preserved
loop-done-preserved c = grind (arith, put_more)
