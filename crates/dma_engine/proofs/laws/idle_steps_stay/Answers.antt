use Rattle.dma_engine.proofs.IdleSteps as idle
use Rattle.dma_engine.proofs.laws.idle_steps_stay.Goals as goal

pub returns : goal.returns
returns c = idle.idle_steps_stay
