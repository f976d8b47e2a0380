-- Ordered ranges of which some are replaced by one range.
use Rattle.std.proofs.Common.{◌≡◌, ℕ, ◌+◌, ◌-◌, ◌<◌, ◌≤◌, List, ◌∷◌, ◌++◌, length, get_or, take, drop, ap, sym, ◌∙◌, subst, arith, inl, inr, length-take}
use Rattle.std.proofs.Common.{length-drop, Result, Ok, Err, All}
use Rattle.std.specs.{Prelude.OnOk, Prelude.OnErr, List.Contains, List.Sorted.IsNonDecreasingBy}
use Rattle.std.proofs.lemmas.List.Sorted.{IsNonDecreasingBy-from_all_adjacent, IsNonDecreasingBy-take, IsNonDecreasingBy-drop}
use Rattle.std.proofs.lemmas.List.{get_or-take, get_or-drop, take-append-drop}
use Rattle.std.proofs.lemmas.List.Elements.{All-append, All-cons, All-contains, All-drop, All-take, Contains-append_cases, Contains-append_left}
use Rattle.std.proofs.lemmas.List.Elements.{Contains-append_right}
use Rattle.std.proofs.{lemmas.Bool.cases_lt, lemmas.List.Kept.AllPairs-cons, lemmas.Grind.flat_map-append}
use Rattle.dma_mem.specs.{declared.segment.Segment.Segment, Places.places, inner.RangesInOrder.IsOrdered, inner.RangesInOrder.AddsAddresses}
use Rattle.dma_mem.proofs.RangeSets.{Lies, in_places, places_in, nowhere, BeginBelow, EndBy, place_here, place_later, places_cons}
use Rattle.dma_mem.proofs.{SharedPlaces.in_range, SharedPlaces.range_in, TransferRules.AllPairs_append}

-- the ranges with s in the place of those from `first` up to `past`
abbrev pub placed : List Segment → ℕ → ℕ → Segment → List Segment
placed rs first past s = take first rs ++ s ∷ drop past rs

-- the addresses of ranges, in two parts
places_parts : (n : ℕ) (rs : List Segment) → places rs ≡ places (take n rs) ++ places (drop n rs)
places_parts n rs = ap places (sym (take-append-drop n rs)) ∙ flat_map-append _ (take n rs) (drop n rs)

-- a measure that doesn't fall over the ranges, at most that of s before it and at least that of s behind it
rises_placed : (n : Segment → ℕ) (rs : List Segment) (first past : ℕ) (s : Segment) → IsNonDecreasingBy n rs
    → ((k : ℕ) (d : Segment) → k < first → k < length rs → n (get_or rs k d) ≤ n s)
    → ((k : ℕ) (d : Segment) → past ≤ k → k < length rs → n s ≤ n (get_or rs k d)) → IsNonDecreasingBy n (placed rs first past s)
rises_placed n rs first past s up before behind =
    let left : All (λ t. n t ≤ n s) (take first rs) =
    λ k d l. rw (get_or-take first rs k d (omega (arith, length-take first rs)))
    (before k d (omega (arith, length-take first rs)) (omega (arith, length-take first rs))) in
    let right : All (λ t. n s ≤ n t) (drop past rs) = λ k d l. rw get_or-drop (behind (past + k) d (omega arith) (omega (arith, length-drop past rs))) in
    let pairs = AllPairs_append (λ x y. n x ≤ n y) (take first rs) (s ∷ drop past rs)
    (λ i j d l m. IsNonDecreasingBy-take n first rs up i j d (omega arith) m)
    (AllPairs-cons (λ x y. n x ≤ n y) s (drop past rs) right (λ i j d l m. IsNonDecreasingBy-drop n past rs up i j d (omega arith) m))
    (λ x y i j. omega (
      arith,
      All-contains (λ t. n t ≤ n s) (take first rs) x left i,
      All-contains (λ t. n s ≤ n t) (s ∷ drop past rs) y
          (All-cons (λ t. n s ≤ n t) s (drop past rs) (omega arith) right) j,
    )) in
    IsNonDecreasingBy-from_all_adjacent n (placed rs first past s) (λ k d l. pairs k (k + 1) d (omega arith) l)

-- those that lie in s are the ranges from `first` up to `past`
pub record Found (rs : List Segment) (first past : ℕ) (s : Segment) : Type 0 where
  pub front : first ≤ length rs
  pub bound : past ≤ length rs
  pub begins : BeginBelow s.addr rs first
  pub ends : EndBy (s.addr + s.len) rs past

ordered_placed : (rs : List Segment) (first past : ℕ) (s : Segment) → IsOrdered rs → 0 < s.len → first ≤ past → Found rs first past s
    → IsOrdered (placed rs first past s)
ordered_placed rs first past s o some order f = record {
  filled =
      let some_in : Segment → Type 0 = λ t. 0 < t.len in
      All-append some_in (take first rs) (s ∷ drop past rs) (All-take some_in first rs o.filled)
      (All-cons some_in s (drop past rs) some (All-drop some_in past rs o.filled));
  starts = rises_placed (λ (t : Segment). t.addr) rs first past s o.starts
      (λ k d l m. omega (arith, f.begins.0 k d (omega arith) l))
      (λ k d l m. omega (arith, f.begins.1 k d (omega (arith, order)) m));
  ends = rises_placed (λ (t : Segment). t.addr + t.len) rs first past s o.ends
      (λ k d l m. omega (arith, f.ends.0 k d (omega arith) (omega (arith, order))))
      (λ k d l m. omega (arith, f.ends.1 k d l m));
}

adds_placed : (rs : List Segment) (first past : ℕ) (s : Segment) → first ≤ past → Found rs first past s → AddsAddresses rs (placed rs first past s) s
adds_placed rs first past s order f = λ a.
    let all : places (placed rs first past s) ≡ places (take first rs) ++ places (s ∷ drop past rs) = flat_map-append _ (take first rs) (s ∷ drop past rs) in
    let from = λ (i : Contains (places (take first rs) ++ places (s ∷ drop past rs)) a). subst (λ xs. Contains xs a) (sym all) i in
    let here = λ (lies : Lies s a). from (Contains-append_right _ _ a (place_here s (drop past rs) a lies)) in (
      λ i. elim (Contains-append_cases _ _ a (subst (λ xs. Contains xs a) all i)) [
        | inl before ↦ inl (subst (λ xs. Contains xs a) (sym (places_parts first rs)) (Contains-append_left _ _ a before))
        | inr more ↦ elim (places_cons s (drop past rs) a more) [
          | inl lies ↦ inr (in_range s.addr s.len a lies.0 lies.1)
          | inr behind ↦ inl (subst (λ xs. Contains xs a) (sym (places_parts past rs)) (Contains-append_right _ _ a behind))
        ]
      ],
      λ i. elim i [
        | inr in_s ↦ here (range_in s.addr s.len a in_s)
        | inl old ↦
            let w = places_in rs nowhere a old in
            elim (cases_lt w.k first) [
              | inl low ↦ from (Contains-append_left _ _ a
                  (in_places (take first rs) w.k nowhere a (omega (arith, w.within, length-take first rs)) (rw (get_or-take first rs w.k nowhere low) w.lies)))
              | inr more ↦ elim (cases_lt w.k past) [
                | inl inner ↦ here (
                  omega (arith, f.begins.1 w.k nowhere more w.within, w.lies.0),
                  omega
                      (arith, f.ends.0 w.k nowhere (omega arith) inner, w.lies.1),
                )
                | inr high ↦
                    let is : past + (w.k - past) ≡ w.k = omega arith in
                    from (Contains-append_right _ _ a
                    (place_later s (drop past rs) a
                    (in_places (drop past rs) (w.k - past) nowhere a (omega (arith, w.within, length-drop past rs)) (rw (get_or-drop, is) w.lies))))
              ]
            ]
      ],
    )

-- s lies in one of the ranges, or is empty: there is nothing to add
pub adds_inner : (rs : List Segment) (first past : ℕ) (s : Segment) → past < first → Found rs first past s → AddsAddresses rs rs s
adds_inner rs first past s h f = λ a. (
  λ i. inl i,
  λ i. elim i [
    | inl old ↦ old
    | inr in_s ↦
        let w = range_in s.addr s.len a in_s in
        let inner : past < length rs = omega (arith, f.front) in
        in_places rs past nowhere a inner
        (omega (arith, f.begins.0 past nowhere (omega arith) h, w.0), omega (arith, f.ends.1 past nowhere (omega arith) inner, w.1))
  ],
)

pub adds_empty : (rs : List Segment) (s : Segment) → s.len ≡ 0 → AddsAddresses rs rs s
adds_empty rs s h = grind (arith, range_in)

-- after an attempt to put it there
pub added : {X Y : Type 0} (result : Result X Y) (rs new : List Segment) (first past : ℕ) (s : Segment) → IsOrdered rs → 0 < s.len → first ≤ past
    → Found rs first past s → OnOk result (new ≡ placed rs first past s) → OnErr result (new ≡ rs) → IsOrdered new × OnOk result (AddsAddresses rs new s)
added (Ok x) rs new first past s o some order f is same = (
  subst IsOrdered (sym is) (ordered_placed rs first past s o some order f),
  subst (λ list. AddsAddresses rs list s) (sym is)
      (adds_placed rs first past s order f),
)
added (Err y) rs new first past s o some order f is same = (subst IsOrdered (sym same) o, tt)
