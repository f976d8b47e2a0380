-- The first bytes of a transfer laid over an image, place by place.
use Rattle.std.proofs.Common.{◌≡◌, ◌≢◌, ℕ, zero, suc, ◌<◌, List, ◌∷◌, length, take, get_or, Option, Some, false, refl, sym, ap, ◌∙◌, arith, eq-eqb, inr}
use Rattle.std.specs.{Prelude.nat_eq, Prelude.unwrap_or, List.AllPairs, List.Contains, List.zip, Map.lookup}
use Rattle.std.proofs.{lemmas.Bool.eqb-true, lemmas.Bool.false_from_ne_true, lemmas.List.Elements.Contains-get_or}
use Rattle.dma_mem.specs.{Image.after_moves, Image.carried, Image.laid, Places.Descriptor, Places.sources, Places.destinations, Places.moves}
use Rattle.dma_mem.proofs.{ImageOver.get_or_after_moves_other, ImagePut.get_or_put, OverTransfers.keys_in}
use Rattle.dma_explain.specs.{Changes.LaidByPlace, Explains.IsCopy}
use Rattle.dma_chan.specs.Others.{Touches}
use Rattle.dma_chan.proofs.LayerLaws.{touched_below}

-- the move with this number is found by its destination
found : (image ds ss : List ℕ) (k p : ℕ) → AllPairs (λ a b. a ≢ b) ds → length ss ≡ length ds → p < k → p < length ds
    → lookup (nat_eq (get_or ds p 0)) (carried image (take k (zip ds ss))) ≡ Some (get_or image (get_or ss p 0) 0)
found image (d ∷ ds) (s ∷ ss) (suc k) zero once long low within = rw (eq-eqb d d refl) refl
found image (d ∷ ds) (s ∷ ss) (suc k) (suc p) once long low within =
    let other : nat_eq (get_or ds p 0) d ≡ false =
    false_from_ne_true _ (λ e. once 0 (suc p) 0 (omega arith) (omega arith) (sym (eqb-true (get_or ds p 0) d e))) in
    let later = found image ds ss k p (λ i j x l m. once (suc i) (suc j) x (omega arith) (omega arith)) (omega arith) (omega arith) (omega arith) in
    rw other later
found image ds ss k p once long low within = absurd (omega arith)

module _ (t : Descriptor) (first : List ℕ) (k : ℕ) (h : IsCopy t) where
  pub laid_copied : (p : ℕ) → ((a : ℕ) → Touches t a → a < length first) → p < k → p < length (destinations t)
      → get_or (laid first t k) (get_or (destinations t) p 0) 0 ≡ get_or first (get_or (sources t) p 0) 0
  unfolding after_moves
  laid_copied p low below within =
      let a = get_or (destinations t) p 0 in
      let there : a < length first = low a (inr (Contains-get_or (destinations t) p 0 within)) in
      get_or_put first (carried first (moves t k)) a there
      ∙ ap (λ (o : Option ℕ). unwrap_or o (get_or first a 0)) (found first (destinations t) (sources t) k p h.once h.same_length below within)

  pub laid_kept : (a : ℕ) → ¬ Contains (take k (destinations t)) a → get_or (laid first t k) a 0 ≡ get_or first a 0
  laid_kept a outside = get_or_after_moves_other first (moves t k) a (λ i. outside (keys_in k (destinations t) (sources t) a i))

pub laid_by_place : LaidByPlace
laid_by_place t first k h below = record {
  copied = λ p less within. laid_copied t first k h p (λ a i. touched_below t (length first) a below i) less within;
  zeros = λ p less within. absurd (omega (arith, less));
  kept = λ a uses outside off. laid_kept t first k h a outside;
}
