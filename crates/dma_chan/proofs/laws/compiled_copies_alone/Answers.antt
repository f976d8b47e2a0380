use Rattle.dma_chan.proofs.CompiledAlone.{compiled_copies_alone}
use Rattle.dma_chan.proofs.laws.compiled_copies_alone.Goals as goal

pub returns : goal.returns
returns c = compiled_copies_alone
