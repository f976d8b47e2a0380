use Rattle.std.proofs.Common.{arith}
use Rattle.std.proofs.lemmas.Grind.{common_steps}
use Rattle.dma_text.proofs.Begun.{begins_more}
use Rattle.dma_text.proofs.text.Tuple4Text.push.Goals as goal

pub returns-clause-begins : goal.returns-clause-begins
returns-clause-begins g c = grind (arith, begins_more)

pub returns-clause-ok : goal.returns-clause-ok
returns-clause-ok g c = grind (arith, common_steps)

pub returns-in_err-push-2-clause-begins : goal.returns-in_err-push-2-clause-begins
returns-in_err-push-2-clause-begins g c = grind (arith, begins_more)

pub returns-in_err-push-3-clause-begins : goal.returns-in_err-push-3-clause-begins
returns-in_err-push-3-clause-begins g c = grind (arith, begins_more)
