use Rattle.dma_manual.proofs.SectionDumps.{objdump_is_read_back}
use Rattle.dma_manual.proofs.printed.objdump_is_read_back.Goals as goal

pub returns : goal.returns
returns c = objdump_is_read_back
