use Rattle.std.proofs.Common.{arith}
use Rattle.dma_text.proofs.Begun.{begins_same, begins_appended}
use Rattle.dma_text.proofs.text.RefStrText.push.Goals as goal

pub returns-clause-begins : goal.returns-clause-begins
returns-clause-begins c = grind (arith, begins_same, begins_appended)
