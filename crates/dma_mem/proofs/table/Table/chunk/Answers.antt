use Rattle.std.proofs.Common.{arith}
use Rattle.dma_mem.proofs.ChunkTables.{chunk_found, chunk_missing}
use Rattle.dma_mem.proofs.table.Table.chunk.Goals as goal

pub returns-in-Some-clause-bytes : goal.returns-in-Some-clause-bytes
returns-in-Some-clause-bytes c = grind (arith, chunk_found)

pub returns-in-None-clause-bytes : goal.returns-in-None-clause-bytes
returns-in-None-clause-bytes c = grind (arith, chunk_missing)
