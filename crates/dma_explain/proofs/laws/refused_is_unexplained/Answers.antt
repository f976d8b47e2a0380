use Rattle.dma_explain.proofs.Explaining.{refused_unexplained}
use Rattle.dma_explain.proofs.laws.refused_is_unexplained.Goals as goal

pub returns : goal.returns
returns c = refused_unexplained
