use Rattle.std.proofs.Common.{arith, ◌≡◌, ℕ, ◌+◌, ◌<◌, List, [], ◌∷◌, ◌++◌, length, get_or, map, take, sym, ap, ◌∙◌, append_assoc}
use Rattle.std.proofs.lemmas.List.{map_more}
use Rattle.dma_text.proofs.Begun.{begins_appended, begun}
use Rattle.dma_seeds.specs.Faults.{shown_byte}
use Rattle.dma_seeds.proofs.faults.push_shown.Goals as goal

pub returns-in_err-push-clause-begins : goal.returns-in_err-push-clause-begins
returns-in_err-push-clause-begins c = grind (arith, begun)

-- one more byte, whatever is shown for it
one_more : (f : ℕ → ℕ) (old so_far new xs : List ℕ) (i y : ℕ) → i < length xs → so_far ≡ old ++ map f (take i xs) → y ≡ f (get_or xs i 0)
    → new ≡ so_far ++ y ∷ [] → new ≡ old ++ map f (take (i + 1) xs)
one_more f old so_far new xs i y within before is pushed =
    pushed ∙ ap (λ l. l ++ y ∷ []) before ∙ append_assoc old (map f (take i xs)) (y ∷ [])
    ∙ ap (λ l. old ++ l) (ap (λ z. map f (take i xs) ++ z ∷ []) is ∙ sym (map_more f xs i 0 within))

pub loop-byte-preserved : goal.loop-byte-preserved
loop-byte-preserved c =
    one_more shown_byte _ c.loop-byte.out.items _ c.args.bytes.now c.loop-byte.byte-index c.shown_byte.result c.loop-byte-test.true
    c.loop-byte.invariant c.shown_byte.ensures c.in_ok-push.ensures.items

pub returns-clause-begins : goal.returns-clause-begins
returns-clause-begins c = begins_appended _ _ _ c.loop-byte.invariant
