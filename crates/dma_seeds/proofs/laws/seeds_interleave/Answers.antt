use Rattle.dma_seeds.proofs.RaceLemmas
use Rattle.dma_seeds.proofs.TurnLemmas
use Rattle.dma_seeds.proofs.laws.seeds_interleave.Goals as goal

pub returns : goal.returns
returns c = record { turns = TurnLemmas.seeds_interleave_law; printed = RaceLemmas.seeds_are_races }
