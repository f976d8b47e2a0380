use Rattle.dma_manual.proofs.OneDump.{dumps_are_read_one_way}
use Rattle.dma_manual.proofs.laws.dumps_are_read_one_way.Goals as goal

pub returns : goal.returns
returns c = dumps_are_read_one_way
