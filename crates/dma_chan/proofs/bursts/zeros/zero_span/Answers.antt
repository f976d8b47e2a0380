use Rattle.std.proofs.Common.{arith}
use Rattle.dma_chan.proofs.ReadyLaws.{span_made}
use Rattle.dma_chan.proofs.bursts.zeros.zero_span.Goals as goal

pub fill-requires-clause-made : goal.fill-requires-clause-made
fill-requires-clause-made g c = grind (arith, span_made)
