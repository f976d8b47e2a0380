use Rattle.std.proofs.Common.{arith}
use Rattle.dma_text.proofs.Begun.{begun}
use Rattle.dma_text.proofs.Begun.{begins_appended, begins_more}
use Rattle.dma_trace.proofs.copies.HappeningsText.push.Goals as goal

pub returns-in_err-push_event-clause-begins : goal.returns-in_err-push_event-clause-begins
returns-in_err-push_event-clause-begins c = begins_more _ _ _ (begins_appended _ _ _ c.loop-happening.invariant.text) c.push_event.ensures.begins

pub returns-clause-begins : goal.returns-clause-begins
returns-clause-begins c = grind (arith, begun)
