use Rattle.std.proofs.Common.{◌/◌, replicate, refl, arith}
use Rattle.std.proofs.lemmas.List.{length-replicate}
use Rattle.dma_mem.proofs.ChunkChanges.{has_bytes}
use Rattle.dma_mem.proofs.table.Table.fill_in_chunk.Goals as goal

pub returns : goal.returns
returns c =
    let w = has_bytes c.self.inside.groups.items c.args.self.now (c.args.start / 16384) c.index_mut-group.result.now c.self.view_is c.requires.made
    c.index_mut-group.ensures.value c.args.start c.fill.new.self (replicate c.args.len c.args.byte) refl
    (omega (arith, length-replicate c.args.len c.args.byte, c.requires.within)) c.fill.ensures.whole c.fill.ensures.new in
    record { len = w.len; count = w.count; image = w.image }
