use Rattle.std.proofs.Common.{◌≡◌, ◌-◌, List, ℕ, length, take, drop, refl, arith, get_or, ap, ◌∙◌}
use Rattle.dma_mem.specs.{Regions.pieces_of, Regions.image_of, inner.Rewritten.Holds, Image.put, Image.bytes_at}
use Rattle.dma_mem.proofs.{Pieces.no_region, PieceWrites.rewritten_at, PieceWrites.region_shown, PieceWrites.ends_in}
use Rattle.dma_mem.proofs.regions.copies.copy_in_region.Goals as goal

pub returns : goal.returns
returns c =
    let rs = c.args.regions.now in
    let i = c.args.index in
    let r = get_or rs i no_region in
    let n = c.args.len in
    let bytes = take n (drop c.args.from (image_of (pieces_of rs))) in
    let shown = region_shown rs i c.args.from n c.requires.order c.requires.index c.requires.reads in
    let long : length bytes ≡ n = ends_in rs i c.args.from n c.requires.order c.requires.index c.requires.reads in
    let holds : Holds (pieces_of rs) i c.args.to (length bytes) =
    record { first = c.requires.writes.first; last = omega (arith, c.requires.writes.last, long) } in
    rewritten_at rs i c.args.to _ bytes c.requires.order c.requires.index holds refl refl refl
    (c.copy_bytes_apart.ensures ∙ ap (λ (xs : List ℕ). put r.bytes.now (bytes_at (c.args.to - r.addr) xs)) shown)
