use Rattle.std.proofs.Common.{◌≡◌, take, map}
use Rattle.dma_engine.specs.{Object.forget, View.object_of}
use Rattle.dma_engine.proofs.engine.Engine.next_channels.Given as goal

abbrev pub invariant-loop-index : goal.invariant-loop-index
invariant-loop-index l = l.list.items ≡ map forget (take l.index (object_of l.self.view).channels)
