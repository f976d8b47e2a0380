use Rattle.std.proofs.Common.{arith}
use Rattle.dma_mem.proofs.WholeMemory.{whole_all}
use Rattle.dma_mem.proofs.ram.LentRamRam.prepare.Goals as goal

pub returns-clause-ok : goal.returns-clause-ok
returns-clause-ok c = whole_all c.args.self.now.bytes.now c.args.segment.addr c.args.segment.len (omega arith)
