use Rattle.dma_chan.proofs.ReadsOnly.{reads_no_other}
use Rattle.dma_chan.proofs.laws.reads_no_other.Goals as goal

pub returns : goal.returns
returns c = reads_no_other
