use Rattle.std.proofs.Common.{◌∙◌, ◌∷◌, ◌++◌, [], ℕ, List, ap, append_assoc, get_or, sym, take}
use Rattle.std.proofs.lemmas.List.{take_more}
use Rattle.dma_chan.proofs.compile.push.Goals as goal

pub loop-byte-preserved : goal.loop-byte-preserved
loop-byte-preserved c =
    let old = c.args.code.now.items in
    let bytes = take c.encode_chip-len.result c.encode_chip-len.new.out in
    let i = c.loop-byte.byte-index in
    let byte = get_or bytes i 0 ∷ [] in
    record {
      bytes = c.push_reserved.ensures.items ∙ ap (λ (xs : List ℕ). xs ++ byte) c.loop-byte.invariant.bytes ∙ append_assoc old (take i bytes) byte
          ∙ ap (λ (xs : List ℕ). old ++ xs) (sym (take_more bytes i 0 c.loop-byte-test.true));
      capacity = c.push_reserved.ensures.capacity ∙ c.loop-byte.invariant.capacity;
    }
