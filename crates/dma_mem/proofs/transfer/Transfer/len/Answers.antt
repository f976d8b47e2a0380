use Rattle.std.proofs.Common.{arith}
use Rattle.dma_mem.proofs.TransferRules.{size_of_some}
use Rattle.dma_mem.proofs.transfer.Transfer.len.Goals as goal

pub returns-clause-low : goal.returns-clause-low
returns-clause-low c = omega (arith, c.self.invariant.1, size_of_some _ c.self.invariant.0)
