use Rattle.std.proofs.Common.{arith}
use Rattle.std.proofs.Common.{◌≡◌, ℕ, ◌+◌, ◌<◌, ◌≤◌, List, [], ◌∷◌, ◌++◌, length, get_or, take}
use Rattle.std.proofs.Common.{refl, sym, ap, ◌∙◌, append_assoc, append-nil, length-take}
use Rattle.std.proofs.{lemmas.List.take_more, lemmas.List.Concat.flat_map-append}
use Rattle.dma_why.specs.Why.{texts_between}
use Rattle.dma_why.proofs.lines.push_between.Goals.{then-index-gt0+in_ok-push, else-index-gt0}
use Rattle.dma_why.proofs.lines.push_between.Goals as goal

module _ {X : Type 0} (b : List ℕ) (t : X → List ℕ) where
  -- the first text, and one more
  texts_first : (ys : List X) (y : X) → length ys ≡ 0 → texts_between b t (ys ++ y ∷ []) ≡ texts_between b t ys ++ t y
  texts_first [] y none = append-nil (t y)
  texts_first (x ∷ ys) y none = cc

  texts_push : (ys : List X) (y : X) → 0 < length ys → texts_between b t (ys ++ y ∷ []) ≡ texts_between b t ys ++ (b ++ t y)
  texts_push [] y some = grind arith
  texts_push (x ∷ ys) y some = rw (flat_map-append (λ z. b ++ t z) ys (y ∷ []), append-nil (b ++ t y)) (sym (append_assoc (t x) _ (b ++ t y)))

  module _ (xs : List X) (i : ℕ) (y : X) (old so_far mid new : List ℕ) (within : i < length xs) (is : y ≡ get_or xs i y)
      (before : so_far ≡ old ++ texts_between b t (take i xs)) (pushed : new ≡ mid ++ t y) where
    taken : take (i + 1) xs ≡ take i xs ++ y ∷ []
    taken = take_more xs i y within ∙ ap (λ z. take i xs ++ z ∷ []) (sym is)

    at_first : i ≤ 0 → mid ≡ so_far → new ≡ old ++ texts_between b t (take (i + 1) xs)
    at_first none same =
        let first = texts_first (take i xs) y (omega (arith, length-take i xs)) in
        pushed ∙ ap (λ l. l ++ t y) (same ∙ before) ∙ append_assoc old (texts_between b t (take i xs)) (t y)
        ∙ ap (λ l. old ++ l) (sym first ∙ ap (texts_between b t) (sym taken))

    at_later : 0 < i → mid ≡ so_far ++ b → new ≡ old ++ texts_between b t (take (i + 1) xs)
    at_later some same =
        let more = texts_push (take i xs) y (omega (arith, length-take i xs)) in
        let texts = texts_between b t (take i xs) in
        let grouped : ((old ++ texts) ++ b) ++ t y ≡ old ++ (texts ++ (b ++ t y)) = simp append_assoc in
        pushed ∙ ap (λ l. l ++ t y) (same ∙ ap (λ l. l ++ b) before) ∙ grouped
        ∙ ap (λ l. old ++ l) (sym more ∙ ap (texts_between b t) (sym taken))

pub loop-index-preserved : goal.loop-index-preserved
loop-index-preserved g c =
    let text = g.T.Text.text in
    let between = c.args.between.now in
    let values = c.args.values.now in
    let y = c.index-values-index.result in
    let is = c.index-values-index.is in
    let mid = c.if-index-gt0.out.items in
    let so_far = c.loop-index.out.items in
    let at = c.loop-index.index in
    let pushed = c.in_ok-push-2.ensures.ok in
    elim c.if-index-gt0.branch [
      | then-index-gt0+in_ok-push w ↦
          at_later between text values at y _ so_far mid _ c.loop-index-test.true is c.loop-index.invariant pushed
          w.if-index-gt0.true (rw w.out-is w.in_ok-push.ensures.ok)
      | else-index-gt0 w ↦
          at_first between text values at y _ so_far mid _ c.loop-index-test.true is c.loop-index.invariant pushed
          w.if-index-gt0.false (rw w.out-is refl)
    ]
