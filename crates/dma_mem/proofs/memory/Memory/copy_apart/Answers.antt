use Rattle.std.proofs.Common.{take, drop, ap, ◌∙◌, arith}
use Rattle.dma_mem.specs.{Image.put, Image.bytes_at, Pages.Paged}
use Rattle.dma_mem.proofs.PageImages.{size_seen, chunks_seen}
use Rattle.dma_mem.proofs.memory.Memory.copy_apart.Goals as goal

pub copy_apart-requires-clause-made : goal.copy_apart-requires-clause-made
copy_apart-requires-clause-made c =
    chunks_seen c.self.inside.size c.self.inside.table c.self.inside.flags c.args.self.now c.args.to c.args.len c.self.view_is c.self.invariant.3
    c.requires.made

pub returns-clause-image : goal.returns-clause-image
returns-clause-image c =
    let long = size_seen c.self.inside.size c.self.inside.table c.self.inside.flags c.args.self.now c.self.view_is in
    c.copy_apart.ensures.image c.self.inside.size (omega (arith, long, c.requires.source)) (omega (arith, long, c.requires.within))
    ∙ ap (λ (m : Paged). put m.image (bytes_at c.args.to (take c.args.len (drop c.args.from m.image)))) c.self.view_is
