use Rattle.dma_mem.proofs.PageImages.{chunks_seen}
use Rattle.dma_mem.proofs.memory.Memory.fill.Goals as goal

pub fill-requires-clause-made : goal.fill-requires-clause-made
fill-requires-clause-made c =
    chunks_seen c.self.inside.size c.self.inside.table c.self.inside.flags c.args.self.now c.args.addr c.args.len c.self.view_is c.self.invariant.3
    c.requires.made
