use Rattle.std.proofs.Common.{◌≡◌, ◌∙◌, ◌∷◌, ◌++◌, ◌<◌, ◌≤◌, [], ap, sym, ◌-◌, get_or, take, drop, length, arith, length-drop, drop-drop}
use Rattle.std.proofs.lemmas.List.{length_push, take_rest, get_or-drop}
use Rattle.dma_text.specs.Lines.{is_blank}
use Rattle.dma_script.specs.{Words.words_of, inner.Digits.bytes_after, inner.Digits.pairs_after}
use Rattle.dma_script.proofs.PairLemmas.{pairs_after_pair, pairs_after_same, pairs_past_space}
use Rattle.dma_script.proofs.{HexLemmas.bytes_after_pair, WordLemmas.words_past_blank}
use Rattle.dma_script.proofs.pairs.spaced_pairs.Goals as goal

pub loop-rest-preserved : goal.loop-rest-preserved
loop-rest-preserved c =
    let rest = c.loop-rest.rest.now in
    let read = c.loop-rest.read.items in
    let bytes = read ++ c.in-Some.byte ∷ [] in
    let three : 3 ≤ length rest = c.in-len3-up.len_at_least in
    let two : 2 ≤ length rest = omega arith in
    let after = take (length rest - 3) (drop 3 rest) in
    let tail = take_rest rest 3 ∙ sym (drop-drop 1 2 rest) in
    let shorter = ap length (take_rest rest 3) ∙ length-drop 3 rest in
    let some : 1 ≤ length (drop 2 rest) = omega (arith, length-drop 2 rest) in
    let positive : 0 < length (drop 2 rest) = omega (arith, length-drop 2 rest) in
    let space : get_or (drop 2 rest) 0 0 ≡ 32 = get_or-drop 2 rest 0 0 ∙ c.if-gap-eq32.true in
    record {
      words = ap (λ b. bytes_after b (words_of after)) c.push_reserved.ensures.items ∙ ap (λ t. bytes_after bytes (words_of t)) tail
          ∙ ap (bytes_after bytes) (words_past_blank (drop 2 rest) positive (ap is_blank space))
          ∙ bytes_after_pair read rest c.in-Some.byte two (sym c.in-Some.ensures) ∙ c.loop-rest.invariant.words;
      pairs = λ line. ap (λ b. pairs_after b line after) c.push_reserved.ensures.items ∙ ap (pairs_after bytes line) tail
          ∙ pairs_after_same bytes line (drop 2 rest) (drop 1 (drop 2 rest)) (pairs_past_space line (drop 2 rest) some space)
          ∙ pairs_after_pair read line c.in-Some.byte rest two (sym c.in-Some.ensures) ∙ c.loop-rest.invariant.pairs line;
      room = omega (arith, shorter, c.loop-rest.invariant.room, three, ap length c.push_reserved.ensures.items, length_push read c.in-Some.byte);
      within = omega (arith, shorter, c.loop-rest.invariant.within);
      capacity = c.push_reserved.ensures.capacity ∙ c.loop-rest.invariant.capacity;
    }
