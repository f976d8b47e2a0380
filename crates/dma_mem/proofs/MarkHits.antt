-- A mark meets a segment exactly if an address of the segment lies in the mark.
use Rattle.std.proofs.Common.{◌≡◌, ℕ, ◌+◌, List, [], ◌∷◌, Bool, true, false, ◌||◌, ◌&&◌, nat_lt, nat_le, refl, ap, sym, ◌∙◌, ◌++◌, inl, inr, subst}
use Rattle.std.specs.List.{list_any, Contains}
use Rattle.std.proofs.lemmas.Bool.{leb-true, ltb-true, le-leb, lt-ltb, and_parts, or_cases, or_right, and_from}
use Rattle.std.proofs.lemmas.List.Folds.{list_any_at, Any-from_list_any, list_any-append, list_any-from_Any}
use Rattle.dma_mem.specs.Marking.{MarkList, same_kind, lies_in, is_marked}
use Rattle.dma_mem.specs.{declared.segment.Segment.Segment, declared.marks.MarkKind.MarkKind, declared.marks.MarkKind.TheVariants.Reading}
use Rattle.dma_mem.specs.{declared.marks.MarkKind.TheVariants.Writing, Places.share, Places.places, Places.range_of, Meeting.meets, Meeting.hits}
use Rattle.dma_mem.specs.{inner.RangesInOrder.IsOrdered, inner.RangesInOrder.AddsAddresses, inner.MarkRanges.AreRangesOf, inner.MarkRanges.RangesOfMarks}
use Rattle.dma_mem.proofs.SharedPlaces.{share_true, shared_by, in_range, range_in, same_bool}

-- ---- tests of the elements of a list

or_false : (b : Bool) → (b || false) ≡ b
or_false true = refl
or_false false = refl

-- an element that passes
pub list_any_of : (p : ℕ → Bool) (xs : List ℕ) (a : ℕ) → Contains xs a → p a ≡ true → list_any p xs ≡ true
list_any_of p xs a i h = list_any_at p xs i.0 a i.1 (ap p i.2 ∙ h)

-- ---- segments

-- an address is among those of a segment where it lies in it
pub lies_in_from_contains : (a : ℕ) (s : Segment) → Contains (range_of s) a → lies_in a s ≡ true
lies_in_from_contains a s i = let w = range_in s.addr s.len a i in rw (le-leb s.addr a w.0) (lt-ltb a (s.addr + s.len) w.1)

pub contains_from_lies_in : (a : ℕ) (s : Segment) → lies_in a s ≡ true → Contains (range_of s) a
contains_from_lies_in a s h = let w = and_parts (nat_le s.addr a) (nat_lt a (s.addr + s.len)) h in
    in_range s.addr s.len a (leb-true s.addr a w.0) (ltb-true a (s.addr + s.len) w.1)

-- ---- marks

-- a mark of the kind meets a segment where one of its addresses is marked
pub hits_addresses : (kind : MarkKind) (marks : MarkList) (s : Segment) → hits kind marks s ≡ list_any (is_marked kind marks) (range_of s)
hits_addresses kind marks s =
    same_bool _ _
    (λ h.
    let m = Any-from_list_any (λ m. same_kind kind m.0 && meets m.1 s) marks h in
    let parts = and_parts _ _ m.4 in
    let w = shared_by _ _ parts.1 in
    list_any_of (is_marked kind marks) (range_of s) w.0 w.2
    (list_any-from_Any (λ x. same_kind kind x.0 && lies_in w.0 x.1) marks (m.0, m.1, m.2, m.3, and_from _ _ parts.0 (lies_in_from_contains w.0 m.1.1 w.1))))
    (λ h.
    let w = Any-from_list_any (is_marked kind marks) (range_of s) h in
    let m = Any-from_list_any (λ x. same_kind kind x.0 && lies_in w.1 x.1) marks w.4 in
    let parts = and_parts _ _ m.4 in
    list_any-from_Any (λ m. same_kind kind m.0 && meets m.1 s) marks
    (m.0, m.1, m.2, m.3, and_from _ _ parts.0 (share_true _ _ w.1 (contains_from_lies_in w.1 m.1.1 parts.1) (w.0, w.2, w.3))))

-- ---- ranges that have the addresses of marks

same_kind_refl : (kind : MarkKind) → same_kind kind kind ≡ true
same_kind_refl Reading = refl
same_kind_refl Writing = refl

-- one more mark
is_marked_more : (kind other : MarkKind) (marks : MarkList) (s : Segment) (a : ℕ)
    → is_marked kind (marks ++ (other, s) ∷ []) a ≡ (is_marked kind marks a || (same_kind kind other && lies_in a s))
is_marked_more kind other marks s a =
    list_any-append _ marks ((other, s) ∷ []) ∙ ap (λ b. is_marked kind marks a || b) (or_false (same_kind kind other && lies_in a s))

-- its ranges have the new mark's addresses too
pub ranges_more : (kind : MarkKind) (marks : MarkList) (old new : List Segment) (s : Segment) → AreRangesOf kind marks old → IsOrdered new
    → AddsAddresses old new s → AreRangesOf kind (marks ++ (kind, s) ∷ []) new
ranges_more kind marks old new s h o more = record {
  ordered = o;
  same = λ a.
      let is = is_marked_more kind kind marks s a ∙ ap (λ b. is_marked kind marks a || (b && lies_in a s)) (same_kind_refl kind) in (
        λ i. elim ((more a).0 i) [
          | inl before ↦ is ∙ ap (λ b. b || lies_in a s) ((h.same a).0 before)
          | inr here ↦ is ∙ or_right (is_marked kind marks a) (lies_in a s) (lies_in_from_contains a s here)
        ],
        λ m. elim (or_cases (is_marked kind marks a) (lies_in a s) (sym is ∙ m)) [
          | inl before ↦ (more a).1 (inl ((h.same a).1 before))
          | inr here ↦ (more a).1 (inr (contains_from_lies_in a s here))
        ],
      );
}

-- a mark of the other kind changes nothing
pub ranges_other : (kind other : MarkKind) (marks : MarkList) (ranges : List Segment) (s : Segment) → same_kind kind other ≡ false
    → AreRangesOf kind marks ranges → AreRangesOf kind (marks ++ (other, s) ∷ []) ranges
ranges_other kind other marks ranges s not_same h = record {
  ordered = h.ordered;
  same = λ a.
      let is = is_marked_more kind other marks s a ∙ ap (λ b. is_marked kind marks a || (b && lies_in a s)) not_same ∙ or_false (is_marked kind marks a) in
      (λ i. is ∙ (h.same a).0 i, λ m. (h.same a).1 (sym is ∙ m));
}

-- a segment has an address of the ranges where one of its addresses is marked
pub marks_found : (kind : MarkKind) (marks : MarkList) (ranges : List Segment) (s : Segment) → AreRangesOf kind marks ranges
    → share (range_of s) (places ranges) ≡ list_any (is_marked kind marks) (range_of s)
marks_found kind marks ranges s h =
    same_bool _ _
    (λ e. let w = shared_by (range_of s) (places ranges) e in list_any_of (is_marked kind marks) (range_of s) w.0 w.1 ((h.same w.0).0 w.2))
    (λ e. let w = Any-from_list_any (is_marked kind marks) (range_of s) e in share_true (range_of s) (places ranges) w.1 (w.0, w.2, w.3) ((h.same w.1).1 w.4))

pub more_loads : (marks list : MarkList) (reading writing new : List Segment) (s : Segment) → RangesOfMarks marks reading writing → IsOrdered new
    → AddsAddresses reading new s → list ≡ marks ++ (Reading, s) ∷ [] → RangesOfMarks list new writing
more_loads marks list reading writing new s h o more is =
    subst (λ ms. RangesOfMarks ms new writing) (sym is) (record {
      loads = ranges_more Reading marks reading new s h.loads o more;
      stores = ranges_other Writing Reading marks writing s refl h.stores;
    })

pub more_stores : (marks list : MarkList) (reading writing new : List Segment) (s : Segment) → RangesOfMarks marks reading writing → IsOrdered new
    → AddsAddresses writing new s → list ≡ marks ++ (Writing, s) ∷ [] → RangesOfMarks list reading new
more_stores marks list reading writing new s h o more is =
    subst (λ ms. RangesOfMarks ms reading new) (sym is) (record {
      loads = ranges_other Reading Writing marks reading s refl h.loads;
      stores = ranges_more Writing marks writing new s h.stores o more;
    })
