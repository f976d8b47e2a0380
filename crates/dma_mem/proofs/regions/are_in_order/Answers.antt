use Rattle.std.proofs.Common.{arith}
use Rattle.std.proofs.lemmas.List.{length-map}
use Rattle.dma_mem.proofs.Pieces.{piece_at_item, rises_more, rises_not}
use Rattle.dma_mem.proofs.regions.are_in_order.Goals as goal
use Rattle.dma_mem.proofs.regions.are_in_order.Goals.{then-from-end-via-then-from-end, then-from-end-via-else-from-end+then-past-gt-LARGEST_END}

pub returns-then-from-end : goal.returns-then-from-end
returns-then-from-end c = grind (arith, piece_at_item, then-from-end-via-then-from-end, rises_not, length-map)

pub loop-region-preserved : goal.loop-region-preserved
loop-region-preserved c = grind (arith, piece_at_item, rises_more, length-map)
