use Rattle.std.proofs.Common.{arith}
use Rattle.std.proofs.{lemmas.Bool.eqb-true, lemmas.List.get_or_past}
use Rattle.dma_mem.proofs.PieceWrites.{byte_shown}
use Rattle.dma_mem.proofs.regions.byte_at.Goals as goal

pub returns-then-is_empty : goal.returns-then-is_empty
returns-then-is_empty c = grind (arith, eqb-true, byte_shown, get_or_past)
