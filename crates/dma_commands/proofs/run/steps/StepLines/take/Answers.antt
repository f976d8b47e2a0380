use Rattle.std.proofs.Common.{arith}
use Rattle.dma_commands.proofs.StepLemmas.{take_equal, take_other}
use Rattle.dma_commands.proofs.run.steps.StepLines.take.Goals as goal

pub returns-then-eq-clause-text : goal.returns-then-eq-clause-text
returns-then-eq-clause-text c = grind (arith, take_equal)

pub returns-clause-text : goal.returns-clause-text
returns-clause-text c = grind (arith, take_other)
