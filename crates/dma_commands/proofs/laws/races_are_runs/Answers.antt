use Rattle.dma_commands.proofs.RacedLemmas as lemmas
use Rattle.dma_commands.proofs.laws.races_are_runs.Goals as goal

pub returns : goal.returns
returns c = lemmas.races_are_runs
