use Rattle.std.proofs.Common.{arith}
use Rattle.std.proofs.lemmas.Grind.{common_steps}
use Rattle.dma_text.proofs.Begun.{begins_more}
use Rattle.dma_manual.proofs.manual.EndTextText.push.Goals as goal

pub returns-in_err-push-2-clause-begins : goal.returns-in_err-push-2-clause-begins
returns-in_err-push-2-clause-begins c = begins_more _ _ _ c.push.ensures.begins c.push-2.ensures.begins

pub returns-in_err-push-3-clause-begins : goal.returns-in_err-push-3-clause-begins
returns-in_err-push-3-clause-begins c = begins_more _ _ _ (begins_more _ _ _ c.push.ensures.begins c.push-2.ensures.begins) c.push-3.ensures.begins

pub returns-in_err-push_unless_zero-clause-begins : goal.returns-in_err-push_unless_zero-clause-begins
returns-in_err-push_unless_zero-clause-begins c =
    begins_more _ _ _ (begins_more _ _ _ (begins_more _ _ _ c.push.ensures.begins c.push-2.ensures.begins) c.push-3.ensures.begins)
    c.push_unless_zero.ensures.begins

pub returns-clause-begins : goal.returns-clause-begins
returns-clause-begins c =
    begins_more _ _ _ (begins_more _ _ _ (begins_more _ _ _ (begins_more _ _ _ c.push.ensures.begins c.push-2.ensures.begins) c.push-3.ensures.begins)
    c.push_unless_zero.ensures.begins) c.push_unless_zero-2.ensures.begins

pub returns-clause-ok : goal.returns-clause-ok
returns-clause-ok c = grind (arith, common_steps)
