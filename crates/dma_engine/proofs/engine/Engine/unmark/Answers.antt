use Rattle.dma_engine.specs.inner.Inside.{parts_of}
use Rattle.dma_engine.proofs.Entries.{holds_unmarked}
use Rattle.dma_engine.proofs.engine.Engine.unmark.Goals as goal

pub invariant_of-self-2 : goal.invariant_of-self-2
invariant_of-self-2 c = rw (c.clear.ensures, c.push_reserved.ensures.items, c.reserve.ensures.items) (holds_unmarked (parts_of c.self.inside) c.self.invariant)
