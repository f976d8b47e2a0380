use Rattle.std.proofs.Common.{arith}
use Rattle.dma_engine.specs.inner.Inside.{parts_of}
use Rattle.dma_engine.proofs.Sizes.{few_queues}
use Rattle.dma_engine.proofs.engine.Engine.channels.Goals as goal

pub overflow_cast-result : goal.overflow_cast-result
overflow_cast-result c = let few = few_queues (parts_of c.self.inside) c.self.invariant in omega (arith, few, c.len.ensures, c.self.inside.queues.ok.0)
