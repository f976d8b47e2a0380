use Rattle.dma_device.proofs.{Idle.nothing_happens, Idle.stay_sound, TurnChanges.turn_changes, Waits.waits_in_vain}
use Rattle.dma_device.proofs.laws.nothing_happens.Goals as goal

pub returns : goal.returns
returns c = record { sound = stay_sound; nothing = nothing_happens; changes = turn_changes; waits = waits_in_vain }
