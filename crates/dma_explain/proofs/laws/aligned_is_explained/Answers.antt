use Rattle.dma_explain.proofs.OnBuses.{explained_on_bus}
use Rattle.dma_explain.proofs.laws.aligned_is_explained.Goals as goal

pub returns : goal.returns
returns c = explained_on_bus
