use Rattle.dma_manual.proofs.PlainDumps.{od_is_read_back}
use Rattle.dma_manual.proofs.printed.od_is_read_back.Goals as goal

pub returns : goal.returns
returns c = od_is_read_back
