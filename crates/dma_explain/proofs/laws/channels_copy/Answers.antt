use Rattle.dma_explain.proofs.SinceLoads.{channels_copy}
use Rattle.dma_explain.proofs.laws.channels_copy.Goals as goal

pub returns : goal.returns
returns c = channels_copy
