use Rattle.dma_engine.specs.inner.Inside.{parts_of}
use Rattle.dma_engine.proofs.Entries.{holds_raised}
use Rattle.dma_engine.proofs.engine.Engine.raise.Goals as goal

pub invariant_of-self-2 : goal.invariant_of-self-2
invariant_of-self-2 c =
    rw (c.set.ensures, c.push_reserved.ensures.items, c.reserve.ensures.items)
    (holds_raised (parts_of c.self.inside) c.args.event c.self.invariant c.if-event-gt-LAST_EVENT.false)
