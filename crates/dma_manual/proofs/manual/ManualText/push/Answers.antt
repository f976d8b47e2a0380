use Rattle.std.proofs.Common.{arith}
use Rattle.std.proofs.lemmas.Grind.{common_steps}
use Rattle.dma_manual.proofs.manual.ManualText.push.Goals as goal

pub returns-in-Lp-clause-ok : goal.returns-in-Lp-clause-ok
returns-in-Lp-clause-ok c = grind (arith, common_steps)

pub returns-in-LpEnd-clause-ok : goal.returns-in-LpEnd-clause-ok
returns-in-LpEnd-clause-ok c = grind (arith, common_steps)

pub returns-in-Sev-clause-ok : goal.returns-in-Sev-clause-ok
returns-in-Sev-clause-ok c = grind (arith, common_steps)

pub returns-after-invalid-clause-ok : goal.returns-after-invalid-clause-ok
returns-after-invalid-clause-ok c = grind (arith, common_steps)

pub returns-in-LoopAgain-clause-ok : goal.returns-in-LoopAgain-clause-ok
returns-in-LoopAgain-clause-ok c = rw c.in-LoopAgain.is (rw c.again_flag.ensures at c.push-in-LoopAgain.ensures.ok)
