use Rattle.dma_script.proofs.CauseLemmas.{first_causes_are_reported}
use Rattle.dma_script.proofs.laws.first_causes_are_reported.Goals as goal

pub returns : goal.returns
returns c = first_causes_are_reported
