use Rattle.std.proofs.Common.{arith}
use Rattle.dma_mem.proofs.{BlockCopies.filled_more}
use Rattle.dma_mem.proofs.table.Table.fill.Goals as goal

pub loop-done-preserved : goal.loop-done-preserved
loop-done-preserved c = grind (arith, filled_more)
