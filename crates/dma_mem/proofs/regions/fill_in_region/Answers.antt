use Rattle.std.proofs.Common.{length, replicate, refl, arith}
use Rattle.std.proofs.lemmas.List.{length-replicate}
use Rattle.dma_mem.specs.{Regions.pieces_of, inner.Rewritten.Holds}
use Rattle.dma_mem.proofs.PieceWrites.{rewritten_at}
use Rattle.dma_mem.proofs.regions.fill_in_region.Goals as goal

pub returns : goal.returns
returns c =
    let rs = c.args.regions.now in
    let bytes = replicate c.args.len c.args.byte in
    let holds : Holds (pieces_of rs) c.args.index c.args.addr (length bytes) =
    record { first = c.requires.holds.first; last = omega (arith, c.requires.holds.last, length-replicate c.args.len c.args.byte) } in
    rewritten_at rs c.args.index c.args.addr _ bytes c.requires.order c.requires.index holds refl refl refl c.fill_bytes.ensures
