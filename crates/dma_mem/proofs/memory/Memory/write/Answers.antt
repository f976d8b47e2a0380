use Rattle.std.proofs.Common.{length, arith}
use Rattle.std.specs.List.{range_with_len}
use Rattle.dma_mem.specs.{Pages.Keeps}
use Rattle.dma_mem.proofs.{ImagePut.length_put, PageImages.Keeps_same, PrepareAll.keeps_made, PrepareAll.Keeps_trans}
use Rattle.dma_mem.proofs.{memory.Memory.write.Goals.After-put}
use Rattle.dma_mem.proofs.memory.Memory.write.Goals as goal

-- the pages that were prepared are still made after the write
written : (c : After-put) → Keeps c.prepare.new.self c.put.new.self
written c = grind (arith, Keeps_same, length_put)

pub returns-clause-made : goal.returns-clause-made
returns-clause-made c =
    let here = (goal.at.returns-clause-made c).After-put in
    keeps_made here.prepare.new.self here.put.new.self (range_with_len here.args.addr (length here.args.bytes.now)) (written here) here.in-Ok.ensures.ok

pub returns-clause-keeps : goal.returns-clause-keeps
returns-clause-keeps c =
    let here = (goal.at.returns-clause-keeps c).After-put in
    Keeps_trans here.args.self.now here.prepare.new.self here.put.new.self here.prepare.ensures.keeps (written here)
