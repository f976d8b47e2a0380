use Rattle.std.proofs.Common.{arith, refl, sym}
use Rattle.dma_trace.proofs.Merged.{rises_cut, rises_more, rises_other}
use Rattle.dma_trace.proofs.ram.add_range.Goals as goal

pub returns-then-end-from-clause-order : goal.returns-then-end-from-clause-order
returns-then-end-from-clause-order c = grind (arith, rises_more, arith)

pub returns-in-Some-clause-order : goal.returns-in-Some-clause-order
returns-in-Some-clause-order c = grind (arith, rises_other, sym, arith)

pub returns-clause-order : goal.returns-clause-order
returns-clause-order c = grind (arith, rises_cut, refl, arith)
