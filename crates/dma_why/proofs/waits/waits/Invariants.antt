use Rattle.std.proofs.Common.{◌≡◌}
use Rattle.std.specs.List.{flat_map, range_with_len}
use Rattle.dma_why.specs.Waits.{waits_on}
use Rattle.dma_why.proofs.waits.waits.Given as goal

abbrev pub invariant-loop-ch : goal.invariant-loop-ch
invariant-loop-ch l = l.waits.items ≡ flat_map (waits_on l.engine.view) (range_with_len 0 l.ch)
