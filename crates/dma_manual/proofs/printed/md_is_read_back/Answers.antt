use Rattle.dma_manual.proofs.ColonDumps.{md_is_read_back}
use Rattle.dma_manual.proofs.printed.md_is_read_back.Goals as goal

pub returns : goal.returns
returns c = md_is_read_back
