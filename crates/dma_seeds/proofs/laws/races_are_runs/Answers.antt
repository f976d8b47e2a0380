use Rattle.dma_seeds.proofs.ReadLemmas
use Rattle.dma_seeds.proofs.ScriptLemmas
use Rattle.dma_seeds.proofs.laws.races_are_runs.Goals as goal

pub returns : goal.returns
returns c = record { read = ReadLemmas.scripts_are_read; printed = ScriptLemmas.races_are_runs }
