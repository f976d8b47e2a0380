use Rattle.dma_explain.proofs.RegionsHave.{gaps_miss}
use Rattle.dma_explain.proofs.laws.gaps_miss.Goals as goal

pub returns : goal.returns
returns c = gaps_miss
