use Rattle.std.proofs.Common.{arith}
use Rattle.std.proofs.lemmas.Grind.{common_steps}
use Rattle.dma_text.proofs.Begun.{begins_more}
use Rattle.dma_text.proofs.text.Tuple2Text.push.Goals as goal

pub returns-clause-begins : goal.returns-clause-begins
returns-clause-begins g c = grind (arith, begins_more)

pub returns-clause-ok : goal.returns-clause-ok
returns-clause-ok g c = grind (arith, common_steps)
