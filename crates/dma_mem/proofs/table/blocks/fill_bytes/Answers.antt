use Rattle.std.proofs.Common.{arith}
use Rattle.std.proofs.lemmas.List.{drop-drop, length-replicate, length-take-le, length-drop}
use Rattle.dma_mem.proofs.BytesPut.{put_bytes_at}
use Rattle.dma_mem.proofs.table.blocks.fill_bytes.Goals as goal

pub returns : goal.returns
returns c = grind (arith, length-take-le, length-drop, length-replicate, put_bytes_at, drop-drop)
