use Rattle.dma_why.proofs.Stays.{circles_stay}
use Rattle.dma_why.proofs.laws.circles_stay.Goals as goal

pub returns : goal.returns
returns c = circles_stay
