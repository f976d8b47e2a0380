use Rattle.dma_why.proofs.CauseLemmas.{causes_are_named}
use Rattle.dma_why.proofs.laws.causes_are_named.Goals as goal

pub returns : goal.returns
returns c = causes_are_named
