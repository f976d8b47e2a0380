use Rattle.std.proofs.Common.{◌/◌, refl}
use Rattle.dma_mem.proofs.ChunkChanges.{has_bytes}
use Rattle.dma_mem.proofs.table.Table.put_in_chunk.Goals as goal

pub returns : goal.returns
returns c =
    let w = has_bytes c.self.inside.groups.items c.args.self.now (c.args.start / 16384) c.index_mut-group.result.now c.self.view_is c.requires.made
    c.index_mut-group.ensures.value c.args.start c.put.new.self c.args.bytes.now refl c.requires.within c.put.ensures.whole c.put.ensures.new in
    record { len = w.len; count = w.count; image = w.image }
