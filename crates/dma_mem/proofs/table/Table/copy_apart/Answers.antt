use Rattle.std.proofs.Common.{arith}
use Rattle.dma_mem.proofs.{ChunkImages.length_image_of, BlockCopies.copied_more}
use Rattle.dma_mem.proofs.table.Table.copy_apart.Goals as goal

pub loop-done-preserved : goal.loop-done-preserved
loop-done-preserved c = grind (arith, length_image_of, copied_more)
