use Rattle.std.proofs.Common.{length, arith}
use Rattle.dma_mem.proofs.PageImages.{chunks_seen}
use Rattle.dma_mem.proofs.memory.Memory.put.Goals as goal

pub put-requires-clause-made : goal.put-requires-clause-made
put-requires-clause-made c = λ a low high.
    chunks_seen c.self.inside.size c.self.inside.table c.self.inside.flags c.args.self.now c.args.addr (length c.args.bytes.now) c.self.view_is
    c.self.invariant.3 c.requires.made a low (omega arith)
