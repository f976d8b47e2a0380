use Rattle.std.proofs.Common.{rules, ◌∙◌, sym}
use Rattle.std.proofs.lemmas.List.{get_or_past}
use Rattle.dma_mem.proofs.ChunkTables.{zero_at}
use Rattle.dma_mem.proofs.table.shown.Goals as goal

pub returns-then-is_empty-clause-bytes : goal.returns-then-is_empty-clause-bytes
returns-then-is_empty-clause-bytes c = λ k. zero_at 16384 k ∙ sym (get_or_past c.args.chunk.now k 0 (search rules))
