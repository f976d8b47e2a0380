-- Two lists and two events that no rule refuses make a transfer.
use Rattle.std.proofs.Common.{◌≡◌, ◌≢◌, ℕ, ◌<◌, ◌≤◌, List, [], ◌∷◌, ◌++◌, length, Option, Some, None, Bool, true, false, ◌||◌, ◌&&◌, nat_lt, refl, zero}
use Rattle.std.proofs.Common.{suc, ap, sym, ◌∙◌, arith, inl, inr, IfSome, get_or}
use Rattle.std.specs.Prelude.{◌==◌, ◌↔◌, All, AllPairs, not, if◌then◌else◌}
use Rattle.std.specs.{Bool.then_some, List.Contains, List.list_any, List.range_with_len, List.flat_map, List.slice_get}
use Rattle.std.proofs.lemmas.Bool.{true≢false, or_parts, not-false, ltb-false, false_from_ne_true, eqb-true, cases_lt, lt-ltb, le-ltb}
use Rattle.std.proofs.lemmas.List.Elements.{All-weaker, All-head, Contains-get_or, Contains-append_cases, Contains-append_left, All-append}
use Rattle.std.proofs.lemmas.List.Elements.{Contains-append_right}
use Rattle.std.proofs.{lemmas.List.length-append, lemmas.List.Sums.sum_by-cons, lemmas.Bool.Decides.nat_tests, lemmas.List.FromFn.length-range_with_len}
use Rattle.std.proofs.{lemmas.List.FromFn.get_or-range_with_len, lemmas.List.Folds.list_any_at, lemmas.Option.slice_get_past, lemmas.List.Kept.AllPairs-cons}
use Rattle.dma_mem.specs.Places.{Apart, Descriptor, filling, places, sources, destinations, size_of, share, touches, is_free_of}
use Rattle.dma_mem.specs.Rules.{IsTransfer, IsSegmentList, HasOneByte}
use Rattle.dma_mem.specs.Refusals.{refusal_of, cause, total, some_meet, meets_any, is_bad_event, is_empty_list, has_too_many, has_empty_segment}
use Rattle.dma_mem.specs.Refusals.{has_wrapping_segment}
use Rattle.dma_mem.specs.{declared.segment.Segment.Segment, declared.transfer.TransferFault.TransferFault, Meeting.meets}
use Rattle.dma_mem.proofs.SharedPlaces.{share_false, share_places, share_sym, share_right, share_each}

-- ---- lists of segments

-- no element passes where the test of the whole list fails
pub All_from_none : {X : Type 0} (p : X → Bool) (xs : List X) → list_any p xs ≡ false → All (λ x. p x ≡ false) xs
All_from_none p xs h = λ k d l. false_from_ne_true _ (λ e. true≢false (sym (list_any_at p xs k d l e) ∙ h))

pub length_places : (list : List Segment) → length (places list) ≡ total list
length_places [] = refl
length_places (s ∷ rest) =
    omega (
      arith,
      length-append (range_with_len s.addr s.len) (places rest),
      length-range_with_len s.addr s.len,
      length_places rest,
      sum_by-cons
          (λ (t : Segment). t.len) s rest,
    )

-- segments of two lists meet where a place is in both
pub meets_any_places : (list others : List Segment) → meets_any list others ≡ share (places list) (places others)
meets_any_places list others = simp share_places (share_each list (places others))

pub AllPairs_append : {X : Type 0} (R : X → X → Type 0) (xs ys : List X) → AllPairs R xs → AllPairs R ys → ((x y : X) → Contains xs x → Contains ys y → R x y)
    → AllPairs R (xs ++ ys)
AllPairs_append R [] ys p q cross = q
AllPairs_append R (x ∷ xs) ys p q cross =
    AllPairs-cons R x (xs ++ ys)
    (All-append (R x) xs ys (λ k d l. p 0 (suc k) d (omega arith) (omega arith))
    (λ k d l. cross x (get_or ys k d) (0, omega arith, refl) (Contains-get_or ys k d l)))
    (AllPairs_append R xs ys (λ i j d l m. p (suc i) (suc j) d (omega arith) (omega arith)) q (λ y z i j. cross y z (Contains-append_right (x ∷ []) xs y i) j))

once_range : (a n : ℕ) → AllPairs (λ x y. x ≢ y) (range_with_len a n)
once_range a n = grind (arith, length-range_with_len, get_or-range_with_len)

-- each place is once in a list of which no two segments meet
pub once_places : (list : List Segment) → some_meet list ≡ false → AllPairs (λ a b. a ≢ b) (places list)
once_places [] h = λ i j d l m. absurd (omega arith)
once_places (s ∷ rest) h =
    let range = range_with_len s.addr s.len in
    let parts = or_parts _ _ h in
    let apart : Apart range (places rest) = share_false range (places rest) (sym (share_places range rest) ∙ parts.0) in
    AllPairs_append (λ x y. x ≢ y) range (places rest) (once_range s.addr s.len) (once_places rest parts.1) (λ x y i j e. apart x i (rw e j))

-- ---- what follows where a test fails

nonempty : (n : ℕ) → (n == 0) ≡ false → 0 < n
nonempty n h = grind (arith, nat_tests)

is_segment_list : (list : List Segment) → is_empty_list list ≡ false → has_too_many list ≡ false → has_empty_segment list ≡ false
    → has_wrapping_segment list ≡ false → IsSegmentList list
is_segment_list list empty many none wraps = grind (arith, nonempty, ltb-false, All-weaker, All_from_none, nat_lt)

good_event : (event : Option ℕ) → is_bad_event event ≡ false → IfSome event (λ e. e ≤ 31)
good_event event h = grind (arith, ltb-false)

-- ---- the places of a fill's sources

-- each is a place of the source list
source_again : (xs ds : List ℕ) (a : ℕ) → Contains (flat_map (λ (d : ℕ). xs) ds) a → Contains xs a
source_again xs [] a i = absurd (omega (arith, i.1))
source_again xs (d ∷ ds) a i = elim (Contains-append_cases xs (flat_map (λ (d : ℕ). xs) ds) a i) [ inl here ↦ here | inr later ↦ source_again xs ds a later ]

source_in_by : (fill : Bool) (xs ds : List ℕ) (a : ℕ) → Contains (if fill then flat_map (λ (d : ℕ). xs) ds else xs) a → Contains xs a
source_in_by true xs ds a i = source_again xs ds a i
source_in_by false xs ds a i = i

pub source_in : (t : Descriptor) (a : ℕ) → Contains (sources t) a → Contains (places t.src) a
source_in t a i = source_in_by t.fill (places t.src) (destinations t) a i

-- one place again for each of a list is as many
again_length : (a : ℕ) (ds : List ℕ) → length (flat_map (λ (d : ℕ). a ∷ []) ds) ≡ length ds
again_length a [] = refl
again_length a (d ∷ ds) = ap suc (again_length a ds)

as_many_by : (fill : Bool) (src dst : List Segment) → (fill ≡ true → (a : ℕ) × (src ≡ record { addr = a; len = 1 } ∷ []))
    → (not fill && not (total src == total dst)) ≡ false
    → length (if fill then flat_map (λ (d : ℕ). places src) (places dst) else places src) ≡ length (places dst)
as_many_by true src dst one h =
    let w = one refl in
    rw w.1 (again_length w.0 (places dst))
as_many_by false src dst one h = grind (arith, eqb-true, not-false, length_places)

as_many : (t : Descriptor) → HasOneByte t → (not t.fill && not (total t.src == total t.dst)) ≡ false → length (sources t) ≡ length (destinations t)
as_many t one h = as_many_by t.fill t.src t.dst one h

-- ---- the law

cause_none : (b : Bool) (fault : TransferFault) (others : Option TransferFault) → cause b fault others ≡ None → (b ≡ false) × (others ≡ None)
cause_none b fault others h = grind (arith)

-- what no rule refuses is a transfer
pub IsTransfer_from_no_refusal : (t : Descriptor) → HasOneByte t → refusal_of t ≡ None → IsTransfer t
IsTransfer_from_no_refusal t one h =
    let empty = cause_none _ _ _ h in
    let many = cause_none _ _ _ empty.1 in
    let filled = cause_none _ _ _ many.1 in
    let wraps = cause_none _ _ _ filled.1 in
    let totals = cause_none _ _ _ wraps.1 in
    let long = cause_none _ _ _ totals.1 in
    let once = cause_none _ _ _ long.1 in
    let apart = cause_none _ _ _ once.1 in
    let events = cause_none _ _ _ apart.1 in
    let empty' = or_parts _ _ empty.0 in
    let many' = or_parts _ _ many.0 in
    let filled' = or_parts _ _ filled.0 in
    let wraps' = or_parts _ _ wraps.0 in
    let events' = or_parts _ _ events.0 in
    record {
      one_byte = one;
      source_list = is_segment_list t.src empty'.0 many'.0 filled'.0 wraps'.0;
      destination_list = is_segment_list t.dst empty'.1 many'.1 filled'.1 wraps'.1;
      same_length = as_many t one totals.0;
      short = rw (length_places t.dst) (ltb-false 1048576 (total t.dst) long.0);
      once = once_places t.dst once.0;
      apart = λ a i. share_false (places t.src) (destinations t) (sym (meets_any_places t.src t.dst) ∙ apart.0) a (source_in t a i);
      wait_event = good_event t.wait events'.0;
      signal_event = good_event t.signal events'.1;
    }

-- the two kinds of transfers
pub copy_from_no_refusal : (src dst : List Segment) (wait signal : Option ℕ)
    → refusal_of (record { fill = false; src = src; dst = dst; wait = wait; signal = signal }) ≡ None
    → IsTransfer (record { fill = false; src = src; dst = dst; wait = wait; signal = signal })
copy_from_no_refusal src dst wait signal h =
    IsTransfer_from_no_refusal (record { fill = false; src = src; dst = dst; wait = wait; signal = signal }) (λ e. absurd (cc)) h

pub fill_from_no_refusal : (src : ℕ) (dst : List Segment) (wait signal : Option ℕ) → refusal_of (filling src dst wait signal) ≡ None
    → IsTransfer (filling src dst wait signal)
fill_from_no_refusal src dst wait signal h =
    IsTransfer_from_no_refusal (filling src dst wait signal) (λ e. (src, refl)) h

-- a list with a segment, none of them empty, has a place
pub places_some : (list : List Segment) → IsSegmentList list → 1 ≤ length (places list)
places_some [] h = omega (arith, h.some)
places_some (s ∷ rest) h = grind (arith, All-head, length-append, length-range_with_len)

pub size_of_some : (t : Descriptor) → IsTransfer t → 1 ≤ size_of t
size_of_some t h = places_some t.dst h.destination_list

-- ---- a fill's one place and its sources

same_again : (fill : Bool) (xs ds : List ℕ) → 1 ≤ length ds → (a : ℕ) → Contains xs a ↔ Contains (if fill then flat_map (λ (d : ℕ). xs) ds else xs) a
same_again false xs ds some a = (λ i. i, λ i. i)
same_again true xs [] some a = absurd (omega arith)
same_again true xs (d ∷ ds) some a =
    (λ i. Contains-append_left xs (flat_map (λ (e : ℕ). xs) ds) a i, λ i. source_again xs (d ∷ ds) a i)

-- a source list has the addresses of the sources
pub same_sources : (t : Descriptor) → IsTransfer t → (a : ℕ) → Contains (places t.src) a ↔ Contains (sources t) a
same_sources t h a = same_again t.fill (places t.src) (destinations t) (size_of_some t h) a

-- what meets a source list meets the sources
pub share_sources : (zs : List ℕ) (t : Descriptor) → IsTransfer t → share zs (sources t) ≡ share zs (places t.src)
share_sources zs t h = share_right zs (sources t) (places t.src) (λ a. ((same_sources t h a).1, (same_sources t h a).0))

pub sources_share : (t : Descriptor) (zs : List ℕ) → IsTransfer t → share (sources t) zs ≡ share (places t.src) zs
sources_share t zs h = share_sym (sources t) zs ∙ share_sources zs t h ∙ share_sym zs (places t.src)

pub touches_lists : (t : Descriptor) (s : Segment) → IsTransfer t
    → touches t s ≡ (share (range_with_len s.addr s.len) (destinations t) || list_any (meets s) t.src)
touches_lists t s h =
    ap (λ b. share (range_with_len s.addr s.len) (destinations t) || b) (share_sources (range_with_len s.addr s.len) t h ∙ sym (share_places _ t.src))

pub is_free_of_lists : (t u : Descriptor) → IsTransfer t → IsTransfer u
    → is_free_of t u ≡ not (meets_any t.dst u.dst || (meets_any t.dst u.src || meets_any t.src u.dst))
is_free_of_lists t u h i = grind (arith, share_sources, sources_share, meets_any_places)

at_again : (a p : ℕ) (ds : List ℕ) → p < length ds → Some a ≡ slice_get (flat_map (λ (d : ℕ). a ∷ []) ds) p
at_again a p [] l = absurd (omega arith)
at_again a zero (d ∷ ds) l = refl
at_again a (suc p) (d ∷ ds) l = at_again a p ds (omega arith)

-- one place at each position below the end
place_below : (a p : ℕ) (ds : List ℕ) → then_some (nat_lt p (length ds)) a ≡ slice_get (flat_map (λ (d : ℕ). a ∷ []) ds) p
place_below a p ds = grind (arith, cases_lt, lt-ltb, at_again, le-ltb, slice_get_past, again_length)

place_of_fill_by : (fill : Bool) (src : List Segment) (ds : List ℕ) (s : Segment) (p : ℕ) → fill ≡ true → src ≡ s ∷ [] → (a : ℕ)
    × (src ≡ record { addr = a; len = 1 } ∷ [])
    → then_some (nat_lt p (length ds)) s.addr ≡ slice_get (if fill then flat_map (λ (d : ℕ). places src) ds else places src) p
place_of_fill_by fill src ds s p h h2 h3 = grind (arith, nat_lt, place_below)

-- a fill reads its one place at every position
pub place_of_fill : (t : Descriptor) (s : Segment) (p : ℕ) → IsTransfer t → t.fill ≡ true → t.src ≡ s ∷ []
    → then_some (nat_lt p (size_of t)) s.addr ≡ slice_get (sources t) p
place_of_fill t s p h e is = place_of_fill_by t.fill t.src (destinations t) s p e is (h.one_byte e)
