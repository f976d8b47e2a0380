use Rattle.std.proofs.lemmas.Option.{IfSome_then}
use Rattle.dma_mem.proofs.PageImages.{read_seen}
use Rattle.dma_mem.proofs.memory.Memory.part.Goals as goal

pub returns-clause-bytes : goal.returns-clause-bytes
returns-clause-bytes c =
    IfSome_then c.part.result c.part.ensures.bytes (λ part found.
    read_seen c.self.inside.size c.self.inside.table c.self.inside.flags c.args.self.now c.self.view_is c.args.addr c.args.len part.now found.0 c.requires
    found.1)
