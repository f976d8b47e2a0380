use Rattle.std.proofs.Common.{arith}
use Rattle.std.proofs.lemmas.Result.{on_ok_weaker, on_err_weaker}
use Rattle.dma_mem.proofs.ChunkTables.{chunk_at_flat_same, length_flat_set, chunk_found, group_within, put_back, others_kept}
use Rattle.dma_mem.proofs.table.Table.make_chunk.Goals as goal

pub index_mut-group-requires : goal.index_mut-group-requires
index_mut-group-requires c = grind (arith, group_within)

pub returns : goal.returns
returns c = grind (arith, group_within, chunk_found, chunk_at_flat_same, put_back, length_flat_set, on_ok_weaker, others_kept, on_err_weaker)
