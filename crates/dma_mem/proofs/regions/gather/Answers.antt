use Rattle.std.proofs.Common.{◌≡◌, ◌<◌, length, take, drop, sym, ◌∙◌, arith}
use Rattle.std.proofs.lemmas.List.{ext_get_or, length-take-le, length-drop, get_or-take, get_or-drop}
use Rattle.dma_mem.specs.Regions.{pieces_of, image_of}
use Rattle.dma_mem.proofs.regions.gather.Goals as goal

pub returns : goal.returns
returns c =
    let image = image_of (pieces_of c.args.regions.now) in
    let n = length c.args.block.now in
    let addr = c.args.addr in
    let long : length (take n (drop addr image)) ≡ n = length-take-le n (drop addr image) (omega (arith, length-drop addr image)) in
    ext_get_or 0 _ _ (omega (arith, long)) (λ k l.
    let less : k < n = omega (arith, long) in
    c.loop-i.invariant k (omega arith) ∙ sym (get_or-take n (drop addr image) k 0 less ∙ get_or-drop addr image k 0))
