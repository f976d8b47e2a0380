use Rattle.std.proofs.Common.{arith}
use Rattle.std.proofs.lemmas.List.{length-map}
use Rattle.dma_mem.proofs.Pieces.{piece_at_item, length_image_of}
use Rattle.dma_mem.proofs.regions.search.size_of.Goals as goal

pub returns-else-count-eq0 : goal.returns-else-count-eq0
returns-else-count-eq0 c = grind (arith, piece_at_item, length_image_of, length-map)
