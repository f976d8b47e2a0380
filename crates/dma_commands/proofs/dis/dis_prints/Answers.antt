use Rattle.dma_commands.proofs.DisLemmas.{dis_prints}
use Rattle.dma_commands.proofs.dis.dis_prints.Goals as goal

pub returns : goal.returns
returns c = dis_prints
