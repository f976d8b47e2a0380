use Rattle.dma_text.proofs.Begun.{begins_appended, begins_more}
use Rattle.dma_trace.proofs.lines.push_dumps.Goals as goal

pub returns-in_err-push_dump-clause-begins : goal.returns-in_err-push_dump-clause-begins
returns-in_err-push_dump-clause-begins c = begins_more _ _ _ (begins_appended _ _ _ c.loop-segment.invariant.text) c.push_dump.ensures.begins
