use Rattle.std.proofs.Common.{◌≡◌, min, take}
use Rattle.std.specs.List.{sum_by}
use Rattle.dma_engine.specs.History.{kept_by}
use Rattle.dma_engine.proofs.engine.totals.kept_in.Given as goal

abbrev pub invariant-loop-index : goal.invariant-loop-index
invariant-loop-index l = l.kept ≡ min (sum_by kept_by (take l.index l.history)) 18446744073709551615
