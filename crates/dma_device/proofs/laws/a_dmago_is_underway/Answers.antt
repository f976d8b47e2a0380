use Rattle.dma_device.proofs.{Exactly.dmago_waits_exactly, Underway.dmago_underway, Underway.killed_keeps_counts}
use Rattle.dma_device.proofs.laws.a_dmago_is_underway.Goals as goal

pub returns : goal.returns
returns c = record { part = dmago_underway; waits = dmago_waits_exactly; killed = killed_keeps_counts }
