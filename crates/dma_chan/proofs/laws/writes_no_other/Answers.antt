use Rattle.dma_chan.proofs.OthersKept.{writes_no_other}
use Rattle.dma_chan.proofs.laws.writes_no_other.Goals as goal

pub returns : goal.returns
returns c = writes_no_other
