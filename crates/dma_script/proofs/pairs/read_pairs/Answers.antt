use Rattle.std.proofs.Common.{◌≡◌, ◌∙◌, ◌+◌, ◌-◌, take, drop, ◌++◌, ◌∷◌, [], ap, sym, get_or, length, true, arith, length-drop}
use Rattle.std.proofs.lemmas.List.{length_push, take_rest}
use Rattle.dma_script.specs.{Pairs.is_gap, inner.Digits.pairs_after}
use Rattle.dma_script.proofs.PairLemmas.{pairs_after_feed, pairs_after_gap, pairs_after_pair}
use Rattle.dma_script.proofs.pairs.read_pairs.Goals.{then-high-eq10, else-high-eq10}
use Rattle.dma_script.proofs.pairs.read_pairs.Goals as goal

pub loop-rest-preserved-in-Some : goal.loop-rest-preserved-in-Some
loop-rest-preserved-in-Some c =
    let rest = c.loop-rest.rest.now in
    let line = c.loop-rest.line in
    let bytes = c.loop-rest.bytes.items ++ c.in-Some.byte ∷ [] in
    let after = take (length rest - 2) (drop 2 rest) in
    let tail = take_rest rest 2 in
    let shorter = ap length tail ∙ length-drop 2 rest in
    record {
      counted = omega (arith, shorter, c.loop-rest.invariant.counted, c.in-len2-up.len_at_least);
      room = omega (
        arith,
        shorter,
        c.loop-rest.invariant.room,
        c.in-len2-up.len_at_least,
        ap length c.push_reserved.ensures.items,
        length_push
            c.loop-rest.bytes.items c.in-Some.byte,
      );
      capacity = omega (arith, c.loop-rest.invariant.capacity, c.push_reserved.ensures.capacity);
      reads = ap (λ read. pairs_after read line after) c.push_reserved.ensures.items
          ∙ ap (pairs_after bytes line) tail
          ∙ pairs_after_pair c.loop-rest.bytes.items line c.in-Some.byte rest c.in-len2-up.len_at_least (sym c.in-Some.ensures)
          ∙ c.loop-rest.invariant.reads;
    }

pub loop-rest-preserved : goal.loop-rest-preserved
loop-rest-preserved c =
    let rest = c.loop-rest.rest.now in
    let line = c.loop-rest.line in
    let bytes = c.loop-rest.bytes.items in
    let gap : is_gap (get_or rest 0 0) ≡ true = sym c.is_gap.ensures ∙ c.if-is_gap.true in
    let tail = take_rest rest 1 in
    let shorter = ap length tail ∙ length-drop 1 rest in
    let read = c.spaced_pairs-rest-then-is_gap.ensures in
    elim c.if-high-eq10.branch [
      | then-high-eq10 w ↦ rw w.line-is (record {
        counted = omega (arith, read.within, shorter, c.loop-rest.invariant.counted, c.in-len2-up.len_at_least);
        room = omega (arith, read.room, shorter, c.loop-rest.invariant.room, c.in-len2-up.len_at_least);
        capacity = omega (arith, read.capacity, c.loop-rest.invariant.capacity);
        reads = read.pairs (line + 1) ∙ ap (pairs_after bytes (line + 1)) tail
            ∙ pairs_after_feed bytes line rest (omega (arith, c.in-len2-up.len_at_least)) gap w.if-high-eq10.true ∙ c.loop-rest.invariant.reads;
      })
      | else-high-eq10 w ↦ rw w.line-is (record {
        counted = omega (arith, read.within, shorter, c.loop-rest.invariant.counted, c.in-len2-up.len_at_least);
        room = omega (arith, read.room, shorter, c.loop-rest.invariant.room, c.in-len2-up.len_at_least);
        capacity = omega (arith, read.capacity, c.loop-rest.invariant.capacity);
        reads = read.pairs line ∙ ap (pairs_after bytes line) tail
            ∙ pairs_after_gap bytes line rest (omega (arith, c.in-len2-up.len_at_least)) gap w.if-high-eq10.false ∙ c.loop-rest.invariant.reads;
      })
    ]
