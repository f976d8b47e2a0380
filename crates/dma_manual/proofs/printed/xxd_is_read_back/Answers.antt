use Rattle.dma_manual.proofs.ColonDumps.{xxd_is_read_back}
use Rattle.dma_manual.proofs.printed.xxd_is_read_back.Goals as goal

pub returns : goal.returns
returns c = xxd_is_read_back
