use Rattle.std.proofs.Common.{◌≡◌, ◌≤◌, ◌*◌, take}
use Rattle.std.specs.List.{sum_by}
use Rattle.dma_engine.specs.{Object.finished, View.object_of}
use Rattle.dma_engine.proofs.engine.Engine.finished_all.Given as goal

abbrev pub invariant-loop-ch : goal.invariant-loop-ch
invariant-loop-ch l =
    (l.all ≡ sum_by finished (take l.ch (object_of l.self.view).channels)) × (l.all ≤ l.ch * 4294967295)
