use Rattle.std.proofs.Common.{◌≡◌, ◌≤◌, length}
use Rattle.std.specs.List.{filter_map, range_with_len}
use Rattle.dma_engine.specs.View.{object_of, runs}
use Rattle.dma_engine.proofs.engine.Engine.running_count.Given as goal

abbrev pub invariant-loop-ch : goal.invariant-loop-ch
invariant-loop-ch l =
    (l.count ≡ length (filter_map (runs (object_of l.self.view) l.self.view.schedule) (range_with_len 0 l.ch))) × (l.count ≤ l.ch)
