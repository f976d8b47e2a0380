-- Of segments that are sorted by their first addresses, two meet exactly if two neighbours do.
use Rattle.std.proofs.Common.{◌≡◌, ℕ, ◌+◌, ◌<◌, ◌≤◌, List, [], ◌∷◌, length, get_or, Bool, true, false, ◌||◌, refl, ap, sym, ◌∙◌, arith, inl, inr, All, suc}
use Rattle.std.proofs.Common.{cond}
use Rattle.std.specs.{Prelude.AllPairs, Prelude.None, List.list_any, List.sum_by, List.Sorted.IsPermutation, List.Sorted.IsNonDecreasingBy, Bool.then_some}
use Rattle.std.proofs.lemmas.Bool.{cases_lt, true≢false, or_parts, cases_Bool, or_from, false_from_ne_true, true_from_ne_false}
use Rattle.std.proofs.lemmas.List.Sorted.{IsPermutation-sym, sum_by-IsPermutation, IsNonDecreasingBy-from_all_adjacent}
use Rattle.std.proofs.lemmas.List.Sums.{sum_by-cons, sum_by-le, get_or-le-sum_by}
use Rattle.std.proofs.{lemmas.List.get_or_default, lemmas.List.Folds.list_any_none, lemmas.List.Kept.AllPairs-cons}
use Rattle.dma_mem.specs.Places.{places, range_of, share}
use Rattle.dma_mem.specs.Refusals.{some_meet, meets_any, overlap_of, cause}
use Rattle.dma_mem.specs.declared.transfer.TransferFault.TheVariants.{DestinationsMeet, SourceMeetsDestination}
use Rattle.dma_mem.specs.{declared.segment.Segment.Segment, Meeting.meets, inner.RangesInOrder.IsOrdered, Marking.lies_in}
use Rattle.dma_mem.proofs.SharedPlaces.{ranges_apart, ranges_meet, share_false, shared_by, share_right, share_each}
use Rattle.dma_mem.proofs.{MarkHits.lies_in_from_contains, MarkHits.contains_from_lies_in, TransferRules.All_from_none, TransferRules.meets_any_places}
use Rattle.dma_mem.proofs.{RangeSets.nowhere, RangeSets.same_permuted}

-- ---- no two of a list meet

abbrev Miss : Segment → Segment → Type 0
Miss s t = meets s t ≡ false

pairs_miss : (l : List Segment) → some_meet l ≡ false → AllPairs Miss l
pairs_miss [] h = λ i j d m n. absurd (omega arith)
pairs_miss (s ∷ rest) h =
    let parts = or_parts _ _ h in
    AllPairs-cons Miss s rest (All_from_none (meets s) rest parts.0) (pairs_miss rest parts.1)

none_meet : (l : List Segment) → AllPairs Miss l → some_meet l ≡ false
none_meet [] h = refl
none_meet (s ∷ rest) h =
    let head : list_any (meets s) rest ≡ false = list_any_none (meets s) rest (λ k d l. h 0 (suc k) d (omega arith) (omega arith)) in
    let tail : some_meet rest ≡ false = none_meet rest (λ i j d l m. h (suc i) (suc j) d (omega arith) (omega arith)) in
    ap (λ b. b || some_meet rest) head ∙ tail

-- ---- in another order

-- 1 if a segment has an address, otherwise 0
abbrev has_it : ℕ → Segment → ℕ
has_it a s = cond (lies_in a s) 1 0

-- where no two segments meet, at most one has an address
few_have : (l : List Segment) (a : ℕ) → some_meet l ≡ false → sum_by (has_it a) l ≤ 1
few_have [] a h = omega arith
few_have (s ∷ rest) a h =
    let parts = or_parts _ _ h in
    let both = sum_by-cons (has_it a) s rest in
    elim (cases_Bool (lies_in a s)) [
      | inl here ↦
          let none : All (λ t. has_it a t ≤ 0) rest =
          λ k d l. rw (false_from_ne_true _
          (λ e. share_false _ _ (All_from_none (meets s) rest parts.0 k d l) a (contains_from_lies_in a s here)
          (contains_from_lies_in a (get_or rest k d) e))) (omega arith) in
          omega (arith, both, sum_by-le (has_it a) 0 rest none, ap {B = ℕ} (λ b. cond b 1 0) here)
      | inr out ↦ omega (arith, both, few_have rest a parts.1, ap {B = ℕ} (λ b. cond b 1 0) out)
    ]

none_meet_few : (l : List Segment) → ((a : ℕ) → sum_by (has_it a) l ≤ 1) → some_meet l ≡ false
none_meet_few [] h = refl
none_meet_few (s ∷ rest) h =
    or_from _ _
    (list_any_none (meets s) rest (λ k d l. false_from_ne_true _ (λ e.
    let w = shared_by _ _ e in
    let one = ap {B = ℕ} (λ b. cond b 1 0) (lies_in_from_contains w.0 s w.1) in
    let two = ap {B = ℕ} (λ b. cond b 1 0) (lies_in_from_contains w.0 (get_or rest k d) w.2) in
    omega (arith, h w.0, sum_by-cons (has_it w.0) s rest, get_or-le-sum_by (has_it w.0) rest k d l, one, two))))
    (none_meet_few rest (λ a. omega (arith, h a, sum_by-cons (has_it a) s rest)))

permuted_miss : (xs ys : List Segment) → IsPermutation xs ys → some_meet xs ≡ false → some_meet ys ≡ false
permuted_miss xs ys p h = none_meet_few ys (λ a. omega (arith, few_have xs a h, sum_by-IsPermutation (has_it a) xs ys p))

pub some_meet_permutation : (xs ys : List Segment) → IsPermutation xs ys → some_meet xs ≡ some_meet ys
some_meet_permutation xs ys p = elim (cases_Bool (some_meet xs)) [
  | inl some ↦ some ∙ sym (true_from_ne_false _ (λ none. true≢false (sym some ∙ permuted_miss ys xs (IsPermutation-sym xs ys p) none)))
  | inr none ↦ none ∙ sym (permuted_miss xs ys p none)
]

-- ---- neighbours

-- each of the first n ends where the next begins or below it
abbrev pub NoOverlap : List Segment → ℕ → Type 0
NoOverlap l n = (k : ℕ) → k + 1 < n → (get_or l k nowhere).addr + (get_or l k nowhere).len ≤ (get_or l (k + 1) nowhere).addr

pub none_overlap : (l : List Segment) → NoOverlap l (length l) → IsNonDecreasingBy (λ (s : Segment). s.addr) l → some_meet l ≡ false
none_overlap l h up = none_meet l (λ i j d m n.
    let here : get_or l i d ≡ get_or l i nowhere = get_or_default l i d nowhere (omega arith) in
    let next : get_or l (i + 1) d ≡ get_or l (i + 1) nowhere = get_or_default l (i + 1) d nowhere (omega arith) in
    let below = h i (omega arith) in
    let later = up (i + 1) j d (omega arith) n in
    ranges_apart (get_or l i d).addr (get_or l i d).len (get_or l j d).addr (get_or l j d).len (λ x a b c e.
    omega (arith, a, b, c, e, below, later, ap (λ (s : Segment). s.addr + s.len) here, ap (λ (s : Segment). s.addr) next)))

pub some_overlap : (l : List Segment) (k : ℕ) (d : Segment) → All (λ s. 0 < s.len) l → IsNonDecreasingBy (λ (s : Segment). s.addr) l → k + 1 < length l
    → (get_or l (k + 1) d).addr < (get_or l k d).addr + (get_or l k d).len → some_meet l ≡ true
some_overlap l k d filled up h over =
    let s = get_or l k d in
    let t = get_or l (k + 1) d in
    let met : meets s t ≡ true =
    ranges_meet s.addr s.len t.addr t.len (filled k d (omega arith)) (filled (k + 1) d h)
    (omega (arith, up k (k + 1) d (omega arith) h, filled (k + 1) d h)) over in
    true_from_ne_false (some_meet l) (λ none. true≢false (sym met ∙ pairs_miss l none k (k + 1) d (omega arith) h))

-- sorted segments of which no two meet are in order for a binary search
pub ordered_apart : (l : List Segment) → All (λ s. 0 < s.len) l → IsNonDecreasingBy (λ (s : Segment). s.addr) l → some_meet l ≡ false → IsOrdered l
ordered_apart l filled up none = record {
  filled = filled;
  starts = up;
  ends = IsNonDecreasingBy-from_all_adjacent (λ (s : Segment). s.addr + s.len) l
      (λ k d h. elim (cases_lt (get_or l (k + 1) d).addr ((get_or l k d).addr + (get_or l k d).len)) [
        | inr past ↦ omega (arith, past)
        | inl over ↦ absurd (true≢false (sym (some_overlap l k d filled up h over) ∙ none))
      ]);
}

-- one segment alone meets no other of its list
short_none : (l : List Segment) → length l ≤ 1 → some_meet l ≡ false
short_none [] h = refl
short_none (s ∷ []) h = refl
short_none (s ∷ t ∷ rest) h = absurd (omega arith)

-- ---- two lists, one of them sorted

-- the tests of the sorted destinations are those of the destinations
pub overlap_sorted : (src dst sorted : List Segment) (met touched : Bool) → IsPermutation dst sorted → met ≡ some_meet sorted
    → touched ≡ list_any (λ s. share (range_of s) (places sorted)) src
    → overlap_of src dst ≡ cause met DestinationsMeet (cause touched SourceMeetsDestination None)
overlap_sorted src dst sorted met touched p m t =
    let same = same_permuted dst sorted p in
    let first : some_meet dst ≡ met = some_meet_permutation dst sorted p ∙ sym m in
    let second : meets_any src dst ≡ touched =
    meets_any_places src dst ∙ share_right (places src) (places dst) (places sorted) (λ a. ((same a).1, (same a).0)) ∙ sym (share_each src (places sorted))
    ∙ sym t in
    ap (λ b. cause b DestinationsMeet (cause (meets_any src dst) SourceMeetsDestination None)) first
    ∙ ap (λ b. cause met DestinationsMeet (cause b SourceMeetsDestination None)) second

-- one destination
pub overlap_one : (src dst : List Segment) (met : Bool) → length dst ≤ 1 → met ≡ meets_any src dst → then_some met SourceMeetsDestination ≡ overlap_of src dst
overlap_one src dst met h h2 = grind (arith, short_none)
