use Rattle.dma_explain.proofs.LaidPlaces.{laid_by_place}
use Rattle.dma_explain.proofs.laws.laid_by_place.Goals as goal

pub returns : goal.returns
returns c = laid_by_place
