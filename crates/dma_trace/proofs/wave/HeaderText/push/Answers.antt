use Rattle.dma_trace.specs.Wave.{header_text}
use Rattle.dma_trace.proofs.wave.HeaderText.push.Goals as goal

pub returns-clause-ok : goal.returns-clause-ok
unfolding header_text
returns-clause-ok c = c.push.ensures.ok
