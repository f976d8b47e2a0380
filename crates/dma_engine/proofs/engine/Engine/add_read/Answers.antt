use Rattle.std.proofs.Common.{arith}
use Rattle.dma_engine.specs.{inner.Inside.parts_of}
use Rattle.dma_engine.proofs.CallCases.{read_done, read_starved}
use Rattle.dma_engine.proofs.{Entries.holds_read, Queues.seen}
use Rattle.dma_engine.proofs.engine.Engine.add_read.Goals as goal

pub returns-in_err-reserve-clause-answer : goal.returns-in_err-reserve-clause-answer
returns-in_err-reserve-clause-answer c = grind (arith, read_starved, seen)

pub invariant_of-self-2 : goal.invariant_of-self-2
invariant_of-self-2 c =
    rw (c.push_reserved.ensures.items, c.reserve.ensures.items)
    (holds_read (parts_of c.self.inside) c.args.self.now.view c.args.addr c.args.len c.args.bytes c.self.invariant
    (seen c.self.view_is) c.requires.free c.requires.bytes)

pub returns-clause-answer : goal.returns-clause-answer
returns-clause-answer c = grind (arith, seen, read_done)
