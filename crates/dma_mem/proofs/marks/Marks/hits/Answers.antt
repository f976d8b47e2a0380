use Rattle.std.proofs.Common.{arith}
use Rattle.dma_mem.proofs.MarkHits.{hits_addresses, marks_found}
use Rattle.dma_mem.proofs.marks.Marks.hits.Goals as goal

pub returns : goal.returns
returns c = grind (arith, marks_found, hits_addresses)
