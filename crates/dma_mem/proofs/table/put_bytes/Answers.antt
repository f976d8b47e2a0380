use Rattle.std.proofs.Common.{arith}
use Rattle.dma_mem.proofs.BytesPut.{put_bytes_at}
use Rattle.std.proofs.lemmas.List.{drop-drop}
use Rattle.dma_mem.proofs.table.put_bytes.Goals as goal

pub returns : goal.returns
returns c = grind (arith, put_bytes_at, drop-drop)
