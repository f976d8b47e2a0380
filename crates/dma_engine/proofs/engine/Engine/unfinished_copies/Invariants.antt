use Rattle.std.proofs.Common.{◌≡◌, ◌-◌, take, drop}
use Rattle.dma_engine.specs.{Object.channel, View.object_of}
use Rattle.dma_engine.proofs.engine.Engine.unfinished_copies.Given as goal

abbrev pub invariant-loop-n : goal.invariant-loop-n
invariant-loop-n l =
    l.list.items ≡ take (l.n - l.first) (drop l.first (channel (object_of l.self.view) l.index).submitted)
