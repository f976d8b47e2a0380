use Rattle.dma_chan.proofs.CallWrites.{call_writes_no_other}
use Rattle.dma_chan.proofs.laws.call_writes_no_other.Goals as goal

pub returns : goal.returns
returns c = call_writes_no_other
