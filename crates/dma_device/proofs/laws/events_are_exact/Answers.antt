use Rattle.dma_device.proofs.Events.{events_are_exact, taken_was_set, waits_for_unset}
use Rattle.dma_device.proofs.laws.events_are_exact.Goals as goal

pub returns : goal.returns
returns c = record { exact = events_are_exact; taken = taken_was_set; waits = waits_for_unset }
