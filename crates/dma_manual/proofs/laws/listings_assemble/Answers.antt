use Rattle.dma_manual.proofs.Listed.{listings_assemble}
use Rattle.dma_manual.proofs.laws.listings_assemble.Goals as goal

pub returns : goal.returns
returns c = listings_assemble
