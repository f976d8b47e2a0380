use Rattle.dma_text.proofs.Begun.{begins_appended, begins_more}
use Rattle.dma_trace.proofs.copies.SegmentsText.push.Goals as goal

pub returns-in_err-push-clause-begins : goal.returns-in_err-push-clause-begins
returns-in_err-push-clause-begins c = begins_more _ _ _ (begins_appended _ _ _ c.loop-segment.invariant.text) c.push.ensures.begins
