use Rattle.dma_trace.specs.Touches.{conflict_text}
use Rattle.dma_trace.proofs.touches.ConflictText.push.Goals as goal

pub returns-in-StoresSource-clause-ok : goal.returns-in-StoresSource-clause-ok
unfolding conflict_text
returns-in-StoresSource-clause-ok c = rw c.in-StoresSource.is c.push-in-StoresSource.ensures.ok
