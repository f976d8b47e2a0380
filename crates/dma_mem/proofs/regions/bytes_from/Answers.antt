use Rattle.std.proofs.Common.{arith}
use Rattle.std.proofs.lemmas.List.{length-map}
use Rattle.dma_mem.proofs.Pieces.{piece_at_item, rest_at, rest_none}
use Rattle.dma_mem.proofs.regions.bytes_from.Goals as goal

pub returns-then-index-regions : goal.returns-then-index-regions
returns-then-index-regions c = grind (arith, rest_none, length-map)

pub returns : goal.returns
returns c = grind (arith, piece_at_item, rest_at, length-map)
