use Rattle.std.proofs.Common.{length, arith}
use Rattle.dma_mem.proofs.PageImages.{read_seen}
use Rattle.dma_mem.proofs.memory.Memory.bytes.Goals as goal

pub returns-in-Some : goal.returns-in-Some
returns-in-Some c =
    read_seen c.self.inside.size c.self.inside.table c.self.inside.flags c.args.self.now c.self.view_is c.args.addr (length c.args.block.now) c.in-Some.part.now
    c.in-Some.ensures.bytes.0 (omega (arith, c.requires)) c.in-Some.ensures.bytes.1

pub returns : goal.returns
returns c =
    read_seen c.self.inside.size c.self.inside.table c.self.inside.flags c.args.self.now c.self.view_is c.args.addr (length c.args.block.now) c.read.new.buf
    (omega (arith, c.read.auto.buf)) (omega (arith, c.requires)) c.read.ensures
