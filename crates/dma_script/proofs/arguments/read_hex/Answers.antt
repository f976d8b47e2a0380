use Rattle.std.proofs.Common.{◌∙◌, ◌-◌, ◌∷◌, ◌++◌, [], ap, sym, take, drop, length, arith, length-drop}
use Rattle.std.proofs.lemmas.List.{length_push, take_rest}
use Rattle.dma_script.specs.{Words.words_of, inner.Digits.bytes_after}
use Rattle.dma_script.proofs.HexLemmas.{bytes_after_pair}
use Rattle.dma_script.proofs.arguments.read_hex.Goals as goal

pub loop-rest-preserved-in-Some : goal.loop-rest-preserved-in-Some
loop-rest-preserved-in-Some c =
    let rest = c.loop-rest.rest.now in
    let after = take (length rest - 2) (drop 2 rest) in
    let tail = take_rest rest 2 in
    let bytes = c.loop-rest.bytes.items ++ c.in-Some.byte ∷ [] in
    record {
      room = omega (
        arith,
        ap length tail
            ∙ length-drop 2 rest,
        c.loop-rest.invariant.room,
        c.in-len2-up.len_at_least,
        ap length c.push_reserved.ensures.items,
        length_push
            c.loop-rest.bytes.items c.in-Some.byte,
      );
      capacity = omega (arith, c.loop-rest.invariant.capacity, c.push_reserved.ensures.capacity);
      reads = ap (λ read. bytes_after read (words_of after)) c.push_reserved.ensures.items ∙ ap (λ t. bytes_after bytes (words_of t)) tail
          ∙ bytes_after_pair c.loop-rest.bytes.items rest c.in-Some.byte c.in-len2-up.len_at_least (sym c.in-Some.ensures) ∙ c.loop-rest.invariant.reads;
    }
