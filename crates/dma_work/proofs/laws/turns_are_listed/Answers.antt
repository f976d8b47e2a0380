use Rattle.dma_work.proofs.Rotations.{goes_round, lists_channels}
use Rattle.dma_work.proofs.laws.turns_are_listed.Goals as goal

pub returns : goal.returns
returns c = record { listed = lists_channels; round = goes_round }
