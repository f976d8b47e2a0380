use Rattle.std.proofs.Common.{◌≡◌, ◌+◌, get_or, drop, Some, ap, sym, ◌∙◌, arith}
use Rattle.std.proofs.{lemmas.List.get_or-take, lemmas.List.get_or-drop, lemmas.Option.slice_get-get_or}
use Rattle.dma_mem.proofs.memory.Memory.byte.Goals as goal

pub returns : goal.returns
returns c =
    let image = c.args.self.now.image in
    let addr = c.args.addr in
    let here : addr + 0 ≡ addr = omega arith in
    ap (λ bs. Some (get_or bs 0 0)) c.bytes-bytes.ensures
    ∙ ap Some (get_or-take 1 (drop addr image) 0 0 (omega arith) ∙ get_or-drop addr image 0 0 ∙ ap (λ i. get_or image i 0) here)
    ∙ sym (slice_get-get_or image addr 0 (omega (arith, c.size.ensures.size)))
