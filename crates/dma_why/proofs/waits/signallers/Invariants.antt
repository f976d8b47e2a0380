use Rattle.std.proofs.Common.{◌≡◌}
use Rattle.std.specs.List.{flat_map, range_with_len}
use Rattle.dma_engine.specs.View.{object_of}
use Rattle.dma_why.specs.Waits.{signallers_on}
use Rattle.dma_why.proofs.waits.signallers.Given as goal

abbrev pub invariant-loop-ch : goal.invariant-loop-ch
invariant-loop-ch l = l.found.items ≡ flat_map (signallers_on (object_of l.engine.view) l.event) (range_with_len 0 l.ch)
