-- Pages made for one segment of a list after another.
use Rattle.std.proofs.Common.{◌≡◌, ℕ, ◌+◌, ◌/◌, ◌<◌, ◌≤◌, List, [], ◌∷◌, length, get_or, take, nat_lt, true, ◌&&◌, refl, ap, ◌∙◌, inl, inr, append-nil}
use Rattle.std.specs.List.{Contains, range_with_len}
use Rattle.std.proofs.lemmas.Bool.{le-leb, and_parts, and_from}
use Rattle.std.proofs.{lemmas.List.take_more, lemmas.List.Elements.Contains-append_cases, lemmas.List.Folds.list_all_more, lemmas.Grind.flat_map-append}
use Rattle.dma_mem.specs.{declared.segment.Segment.Segment, Places.places, Places.all_below, Pages.Paged, Pages.AllMade, Pages.Keeps, Pages.has_page}
use Rattle.dma_mem.proofs.SharedPlaces.{range_in}
use Rattle.dma_mem.proofs.RangeSets.{in_places as in_segments}

-- ---- the addresses of a list

-- an address of the segment at k
pub in_places : (rs : List Segment) (k : ℕ) (d : Segment) (a : ℕ) → k < length rs → Contains (range_with_len (get_or rs k d).addr (get_or rs k d).len) a
    → Contains (places rs) a
in_places rs k d a h i = in_segments rs k d a h (range_in _ _ a i)

-- one more segment of a list that ends below a size
pub below_more : (list : List Segment) (i : ℕ) (d : Segment) (size : ℕ) → i < length list → all_below (take i list) size ≡ true
    → (get_or list i d).addr + (get_or list i d).len ≤ size → all_below (take (i + 1) list) size ≡ true
below_more list i d size h first next = list_all_more _ list i d h ∙ and_from _ _ first (le-leb _ size next)

-- ---- what is made

-- one more segment of the list is made
pub made_more : (m : Paged) (list : List Segment) (i : ℕ) (d : Segment) → i < length list → AllMade m (places (take i list))
    → AllMade m (range_with_len (get_or list i d).addr (get_or list i d).len) → AllMade m (places (take (i + 1) list))
made_more m list i d h first next = λ a c.
    elim (Contains-append_cases (places (take i list)) (places (get_or list i d ∷ [])) a (rw (take_more list i d h, flat_map-append) at c)) [
      | inl before ↦ first a before
      | inr here ↦ next a (rw append-nil at here)
    ]

-- what was made still is
pub keeps_made : (old new : Paged) (xs : List ℕ) → Keeps old new → AllMade old xs → AllMade new xs
keeps_made old new xs k h = λ a i.
    let parts = and_parts (nat_lt a (length old.image)) (has_page old (a / 4096)) (h a i) in
    ap (λ n. nat_lt a n && has_page new (a / 4096)) k.size ∙ rw (parts.0, k.made (a / 4096) parts.1) refl

pub Keeps_trans : (a b c : Paged) → Keeps a b → Keeps b c → Keeps a c
Keeps_trans a b c f g = record { size = g.size ∙ f.size; made = λ p h. g.made p (f.made p h) }

pub Keeps_refl : (m : Paged) → Keeps m m
Keeps_refl m = record { size = refl; made = λ p h. h }
