use Rattle.dma_text.proofs.Begun.{begins_appended, begins_more}
use Rattle.dma_trace.proofs.warnings.push_all_further.Goals as goal

pub returns-in_err-push_further-clause-begins : goal.returns-in_err-push_further-clause-begins
returns-in_err-push_further-clause-begins c = begins_more _ _ _ (begins_appended _ _ _ c.loop-warning.invariant.text) c.push_further.ensures.begins
