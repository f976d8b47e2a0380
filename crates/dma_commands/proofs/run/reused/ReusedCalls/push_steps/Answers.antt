use Rattle.std.proofs.Common.{◌≡◌, ◌≤◌, ◌+◌, ◌++◌, ◌∷◌, [], ◌∙◌, ℕ, List, ap, append_assoc, arith, length, replicate, sym, take}
use Rattle.std.proofs.lemmas.List.{length-take-le, replicate_more, take-append-le, take-take}
use Rattle.dma_mem.specs.declared.call.Call.TheVariants.{Step}
use Rattle.dma_commands.proofs.run.reused.ReusedCalls.push_steps.Goals as goal

-- The items before a place stay if one is written there.
kept_before : {X : Type 0} (own xs ys : List X) (y : X) (len end : ℕ) → len ≤ end → end ≤ length xs
    → take (end + 1) ys ≡ take end xs ++ y ∷ [] → take len xs ≡ own → take len ys ≡ own
kept_before own xs ys y len end few some is kept =
    sym (take-take len (end + 1) ys (omega (arith, few)))
    ∙ ap (take len) is
    ∙ take-append-le len (take end xs) (y ∷ []) (omega (arith, few, length-take-le end xs some))
    ∙ take-take len end xs few ∙ kept

-- one more of the same item
one_more : {X : Type 0} (own xs ys : List X) (y : X) (end k : ℕ) → take (end + 1) ys ≡ take end xs ++ y ∷ []
    → take end xs ≡ own ++ replicate k y → take (end + 1) ys ≡ own ++ replicate (k + 1) y
one_more own xs ys y end k is before =
    is ∙ ap (λ l. l ++ y ∷ []) before ∙ append_assoc own (replicate k y) (y ∷ []) ∙ ap (λ l. own ++ l) (replicate_more k y)

pub loop-preserved : goal.loop-preserved
loop-preserved c =
    let own = c.args.self.now in
    let xs = c.loop.self-inside.places.items in
    let ys = c.put_step.new.places.items in
    let y = Step c.args.ch in
    let end = c.loop.end in
    let inv = c.loop.invariant in
    let put = c.in_ok-put_step.ensures.ok in
    record {
      end = omega (arith, inv.end);
      some = omega (arith, c.in_ok-put_step.ensures.some);
      calls = kept_before own xs ys y c.loop.self-inside.len end (omega (arith, inv.end)) inv.some put inv.calls;
      items = one_more own xs ys y end c.loop.counter put inv.items;
    }
