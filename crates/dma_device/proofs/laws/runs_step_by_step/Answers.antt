use Rattle.dma_device.proofs.Runs.{runs_step_by_step}
use Rattle.dma_device.proofs.laws.runs_step_by_step.Goals as goal

pub returns : goal.returns
returns c = runs_step_by_step
