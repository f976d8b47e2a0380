use Rattle.std.proofs.Common.{length, ◌∙◌, arith}
use Rattle.dma_mem.proofs.PageImages.{read_seen}
use Rattle.dma_mem.proofs.memory.Memory.read_into.Goals as goal

pub returns-in-Some-clause-ok : goal.returns-in-Some-clause-ok
returns-in-Some-clause-ok c =
    c.copy_from_slice.ensures.after
    ∙ read_seen c.self.inside.size c.self.inside.table c.self.inside.flags c.args.self.now c.self.view_is c.args.addr (length c.args.buf.now) c.in-Some.part.now
    c.in-Some.ensures.bytes.0 (omega (arith, c.size.ensures.size)) c.in-Some.ensures.bytes.1

pub returns-in-None-clause-ok : goal.returns-in-None-clause-ok
returns-in-None-clause-ok c =
    read_seen c.self.inside.size c.self.inside.table c.self.inside.flags c.args.self.now c.self.view_is c.args.addr (length c.args.buf.now) c.read.new.buf
    (omega (arith, c.read.auto.buf)) (omega (arith, c.size.ensures.size)) c.read.ensures
