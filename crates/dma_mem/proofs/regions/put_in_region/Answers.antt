use Rattle.std.proofs.Common.{refl}
use Rattle.dma_mem.proofs.PieceWrites.{rewritten_at}
use Rattle.dma_mem.proofs.regions.put_in_region.Goals as goal

pub returns : goal.returns
returns c =
    let rs = c.args.regions.now in
    rewritten_at rs c.args.index c.args.addr _ c.args.bytes.now c.requires.order c.requires.index c.requires.holds refl refl refl c.put_bytes.ensures
