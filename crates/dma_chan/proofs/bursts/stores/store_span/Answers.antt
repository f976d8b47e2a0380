use Rattle.std.proofs.Common.{arith, length-drop, length-take}
use Rattle.dma_chan.proofs.{BurstRounds.span_within, ReadyLaws.span_made}
use Rattle.dma_chan.proofs.bursts.stores.store_span.Goals as goal

pub overflow_sub-overwritten : goal.overflow_sub-overwritten
overflow_sub-overwritten g c = grind (arith, span_within)

pub put-requires-clause-made : goal.put-requires-clause-made
put-requires-clause-made g c = grind (arith, span_made, span_within, length-take, length-drop)

pub put-requires-in_default-clause-made : goal.put-requires-in_default-clause-made
put-requires-in_default-clause-made g c = grind (arith, span_made, span_within, length-take, length-drop)
