use Rattle.std.proofs.Common.{arith, length-take}
use Rattle.dma_chan.proofs.BurstRounds.{bytes_put, read_fixed, read_rising, span_within}
use Rattle.dma_chan.proofs.bursts.load_span.Goals as goal

pub returns-then-burst : goal.returns-then-burst
returns-then-burst g c = grind (arith, length-take, span_within, bytes_put, read_rising)

pub returns-else-burst : goal.returns-else-burst
returns-else-burst g c = grind (arith, length-take, read_fixed)
