use Rattle.std.proofs.Common.{◌<◌, length, arith}
use Rattle.dma_mem.specs.{Regions.pieces_of, inner.Rewritten.piece_at}
use Rattle.dma_mem.proofs.{Pieces.has_parts, PieceWrites.place_found}
use Rattle.dma_mem.proofs.regions.put_byte.Goals as goal

pub put_in_region-requires-clause-index : goal.put_in_region-requires-clause-index
put_in_region-requires-clause-index c =
    place_found c.args.regions.now c.args.addr 1 c.place-index.result c.requires (omega arith) c.place-index.ensures.within c.place-index.ensures.before

pub put_in_region-requires-clause-holds : goal.put_in_region-requires-clause-holds
put_in_region-requires-clause-holds c =
    let rs = c.args.regions.now in
    let i = c.place-index.result in
    let less : i < length rs = place_found rs c.args.addr 1 i c.requires (omega arith) c.place-index.ensures.within c.place-index.ensures.before in
    let parts = has_parts c.args.addr (piece_at (pieces_of rs) i) (c.place-index.ensures.found less) in
    record { first = parts.0; last = omega (arith, parts.1) }
