use Rattle.std.proofs.Common.{arith}
use Rattle.std.proofs.{lemmas.Grind.common_steps, lemmas.List.get_or_past}
use Rattle.dma_mem.proofs.BlankChunks.{blank_at, length_blank, length_with_memory, shown_new}
use Rattle.dma_mem.proofs.table.Chunk.make.Goals as goal

pub returns-in_ok-self-inside-clause-whole : goal.returns-in_ok-self-inside-clause-whole
returns-in_ok-self-inside-clause-whole c = grind (arith, shown_new, length_blank)

pub returns-in_ok-self-inside-clause-bytes : goal.returns-in_ok-self-inside-clause-bytes
returns-in_ok-self-inside-clause-bytes c = grind (arith, common_steps, shown_new, blank_at, get_or_past)

pub returns-else-capacity-eq0-clause-whole : goal.returns-else-capacity-eq0-clause-whole
returns-else-capacity-eq0-clause-whole c = grind (arith, length_with_memory)
