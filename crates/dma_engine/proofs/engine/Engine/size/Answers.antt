use Rattle.std.proofs.Common.{◌∙◌, ap}
use Rattle.dma_engine.specs.{inner.Inside.parts_of, View.size}
use Rattle.dma_engine.proofs.Sizes.{size_is}
use Rattle.dma_engine.proofs.Queues.{seen}
use Rattle.dma_engine.proofs.engine.Engine.size.Goals as goal

pub returns : goal.returns
returns c = size_is (parts_of c.self.inside) c.self.invariant ∙ ap size (seen c.self.view_is)
