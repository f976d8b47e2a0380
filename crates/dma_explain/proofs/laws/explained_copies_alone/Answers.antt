use Rattle.dma_explain.proofs.AmongOthers.{explained_copies_alone}
use Rattle.dma_explain.proofs.laws.explained_copies_alone.Goals as goal

pub returns : goal.returns
returns c = explained_copies_alone
