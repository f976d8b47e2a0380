use Rattle.dma_device.proofs.Shown.{turn_shows}
use Rattle.dma_device.proofs.laws.a_fault_shows_what_was_before.Goals as goal

pub returns : goal.returns
returns c = turn_shows
