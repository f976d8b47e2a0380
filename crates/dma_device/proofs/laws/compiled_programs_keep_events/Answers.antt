use Rattle.dma_device.proofs.Progress.{compiled_goes_on, compiled_has_events, compiled_signals}
use Rattle.dma_device.proofs.laws.compiled_programs_keep_events.Goals as goal

pub returns : goal.returns
returns c = record { has_events = compiled_has_events; goes_on = compiled_goes_on; signals = compiled_signals }
