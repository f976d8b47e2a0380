-- Ranges in order, and the addresses of segments.
use Rattle.std.proofs.Common.{◌≡◌, ℕ, ◌+◌, ◌-◌, ◌<◌, ◌≤◌, ◌⊎◌, List, [], ◌∷◌, length, get_or, max, Bool, true, false, ◌||◌, refl, ap, sym, ◌∙◌, subst, arith}
use Rattle.std.proofs.Common.{inl, inr, zero, suc, All}
use Rattle.std.specs.List.Sorted.{IsPermutation, IsNonDecreasingBy, IsPartitionPoint}
use Rattle.std.specs.{Prelude.MatchBool, Prelude.not, List.Contains, List.Retain.DedupsFrom, List.Retain.IsDeduped}
use Rattle.std.proofs.lemmas.List.Elements.{All-head, All-tail, All-cons, All-weaker, Contains-append_left, Contains-append_right, Contains-append_cases}
use Rattle.std.proofs.lemmas.List.Elements.{Contains-get_or}
use Rattle.std.proofs.{lemmas.Bool.leb-true, lemmas.Bool.leb-false, lemmas.Bool.cases_lt, lemmas.List.Kept.AllPairs-cons}
use Rattle.std.proofs.{lemmas.List.Sorted.Contains-permutation, lemmas.List.Sorted.IsPermutation-sym, lemmas.List.Sorted.IsNonDecreasingBy-from_all_adjacent}
use Rattle.dma_mem.specs.Places.{Descriptor, places, share, range_of, sources, destinations, writes, touches, is_free_of}
use Rattle.dma_mem.specs.{declared.segment.Segment.Segment, Rules.IsTransfer, Ranges.IsCoalesced, Ranges.HasSources, Ranges.SameAddresses}
use Rattle.dma_mem.specs.{inner.RangesInOrder.IsOrdered, inner.RangesInOrder.IsClearOf, inner.RangesInOrder.Joins}
use Rattle.dma_mem.proofs.SharedPlaces.{share_true, share_none, shared_by, in_range, range_in, same_bool}
use Rattle.dma_mem.proofs.TransferRules.{same_sources}
pub use Rattle.dma_mem.proofs.SharedPlaces.{share_right}

-- ---- the addresses of a list

abbrev pub Lies : Segment → ℕ → Type 0
Lies s a = (s.addr ≤ a) × (a < s.addr + s.len)

pub places_cons : (s : Segment) (rs : List Segment) (a : ℕ) → Contains (places (s ∷ rs)) a → Lies s a ⊎ Contains (places rs) a
places_cons s rs a i = elim (Contains-append_cases (range_of s) (places rs) a i) [
  | inl here ↦ inl (range_in s.addr s.len a here)
  | inr later ↦ inr later
]

pub place_here : (s : Segment) (rs : List Segment) (a : ℕ) → Lies s a → Contains (places (s ∷ rs)) a
place_here s rs a l = Contains-append_left (range_of s) (places rs) a (in_range s.addr s.len a l.0 l.1)

pub place_later : (s : Segment) (rs : List Segment) (a : ℕ) → Contains (places rs) a → Contains (places (s ∷ rs)) a
place_later s rs a i = Contains-append_right (range_of s) (places rs) a i

-- an address of the segment at k
pub in_places : (rs : List Segment) (k : ℕ) (d : Segment) (a : ℕ) → k < length rs → Lies (get_or rs k d) a → Contains (places rs) a
in_places [] k d a h l = absurd (omega arith)
in_places (s ∷ rs) zero d a h l = place_here s rs a l
in_places (s ∷ rs) (suc k) d a h l = place_later s rs a (in_places rs k d a (omega arith) l)

-- the segment of an address
pub record At (rs : List Segment) (d : Segment) (a : ℕ) : Type 0 where
  pub k : ℕ
  pub within : k < length rs
  pub lies : Lies (get_or rs k d) a

pub places_in : (rs : List Segment) (d : Segment) (a : ℕ) → Contains (places rs) a → At rs d a
places_in [] d a i = absurd (omega (arith, i.1))
places_in (s ∷ rs) d a i = elim (places_cons s rs a i) [
  | inl here ↦ record { k = 0; within = omega arith; lies = here }
  | inr later ↦ let w = places_in rs d a later in record { k = suc w.k; within = omega (arith, w.within); lies = w.lies }
]

-- ---- in another order

abbrev pub nowhere : Segment
nowhere = record { addr = 0; len = 0 }

-- an address of a segment that is in another list too
moved : (xs ys : List Segment) (d : Segment) (a : ℕ) (w : At xs d a) → Contains ys (get_or xs w.k d) → Contains (places ys) a
moved xs ys d a w i = in_places ys i.0 (get_or xs w.k d) a i.1 (subst (λ (t : Segment). Lies t a) (sym i.2) w.lies)

pub same_permuted : (xs ys : List Segment) → IsPermutation xs ys → SameAddresses ys xs
same_permuted xs ys p = λ a.
    let back = IsPermutation-sym xs ys p in (
      λ i. let w = places_in ys nowhere a i in
          moved ys xs nowhere a w (Contains-permutation ys xs (get_or ys w.k nowhere) back (Contains-get_or ys w.k nowhere w.within)),
      λ i. let w = places_in xs nowhere a i in
          moved xs ys nowhere a w (Contains-permutation xs ys (get_or xs w.k nowhere) p (Contains-get_or xs w.k nowhere w.within)),
    )

pub same_trans : (xs ys zs : List Segment) → SameAddresses xs ys → SameAddresses ys zs → SameAddresses xs zs
same_trans xs ys zs f g = λ a. (λ i. (g a).0 ((f a).0 i), λ i. (f a).1 ((g a).1 i))

-- ---- segments in the order of their first addresses, item after item

abbrev pub Rising : ℕ → List Segment → Type 0
Rising low [] = Unit
Rising low (s ∷ rest) = (low ≤ s.addr) × (0 < s.len) × (s.addr + s.len ≤ 4294967295) × Rising s.addr rest

-- Segments by rising address, none of which is empty, with at least one address between each and the next.
abbrev pub Spaced : ℕ → List Segment → Type 0
Spaced low [] = Unit
Spaced low (s ∷ rest) = (low ≤ s.addr) × (0 < s.len) × Spaced (s.addr + s.len + 1) rest

Rising_lower : (low high : ℕ) (xs : List Segment) → low ≤ high → Rising high xs → Rising low xs
Rising_lower low high [] h r = tt
Rising_lower low high (s ∷ rest) h r = (omega (arith, r.0), r.1, r.2, r.3)

pub rising_from : (low : ℕ) (xs : List Segment) → All (λ s. low ≤ s.addr) xs → All (λ s. 0 < s.len) xs → All (λ s. s.addr + s.len ≤ 4294967295) xs
    → IsNonDecreasingBy (λ (s : Segment). s.addr) xs → Rising low xs
rising_from low [] l f w r = tt
rising_from low (s ∷ rest) l f w r =
    let later : All (λ (t : Segment). s.addr ≤ t.addr) rest = λ k d m. r 0 (suc k) d (omega arith) (omega arith) in
    let order : IsNonDecreasingBy (λ (t : Segment). t.addr) rest = λ i j d m n. r (suc i) (suc j) d (omega arith) (omega arith) in (
      All-head (λ (t : Segment). low ≤ t.addr) s rest l,
      All-head (λ (t : Segment). 0 < t.len) s rest f,
      All-head (λ (t : Segment). t.addr + t.len ≤ 4294967295) s rest w,
      rising_from s.addr rest later (All-tail (λ (t : Segment). 0 < t.len) s rest f) (All-tail (λ (t : Segment). t.addr + t.len ≤ 4294967295) s rest w) order,
    )

pub record Spread (low : ℕ) (ys : List Segment) : Type 0 where
  pub above : All (λ s. low ≤ s.addr) ys
  pub coalesced : IsCoalesced ys

pub spread_from : (low : ℕ) (ys : List Segment) → Spaced low ys → Spread low ys
spread_from low [] h = grind arith
spread_from low (s ∷ rest) h =
    let more = spread_from (s.addr + s.len + 1) rest h.2 in
    let past : All (λ (t : Segment). s.addr + s.len < t.addr) rest =
    All-weaker (λ (t : Segment). s.addr + s.len + 1 ≤ t.addr) (λ t. s.addr + s.len < t.addr) (λ t l. omega (arith, l)) rest more.above in
    record {
      above = All-cons (λ (t : Segment). low ≤ t.addr) s rest h.0
          (All-weaker (λ (t : Segment). s.addr + s.len + 1 ≤ t.addr) (λ t. low ≤ t.addr) (λ t l. omega (arith, l, h.0)) rest more.above);
      coalesced = record {
        filled = All-cons (λ (t : Segment). 0 < t.len) s rest h.1 more.coalesced.filled;
        apart = AllPairs-cons (λ (t u : Segment). t.addr + t.len < u.addr) s rest past more.coalesced.apart;
      };
    }

-- ---- each joined with the range before it, or a range of its own

pub joins_at : (y j y' j' x k x' k' : Segment) (b : Bool) → y ≡ x → j ≡ k → y' ≡ x' → j' ≡ k' → Joins y j b y' j' → Joins x k b x' k'
joins_at y j y' j' x k x' k' b e f g i h = grind arith

by_case : (b : Bool) (P Q : Type 0) → MatchBool b P Q → ((b ≡ true) × P) ⊎ ((b ≡ false) × Q)
by_case b P Q h = grind (arith)

pub record Coalesces (low : ℕ) (ys given : List Segment) : Type 0 where
  pub spaced : Spaced low ys
  pub same : SameAddresses ys given

-- the range that takes in the next segment has the addresses of both
same_longer : (ys rest : List Segment) (k k' x : Segment) → SameAddresses ys (k' ∷ rest) → k.addr ≤ x.addr → x.addr ≤ k.addr + k.len → k'.addr ≡ k.addr
    → k'.addr + k'.len ≡ max (k.addr + k.len) (x.addr + x.len) → SameAddresses ys (k ∷ x ∷ rest)
same_longer ys rest k k' x h order near start end = λ a. (
  λ i. elim (places_cons k' rest a ((h a).0 i)) [
    | inl here ↦ elim (cases_lt a (k.addr + k.len)) [
      | inl in_k ↦ place_here k (x ∷ rest) a (omega (arith, here.0), in_k)
      | inr past ↦ place_later k (x ∷ rest) a (place_here x rest a (omega arith, omega (arith, here.1)))
    ]
    | inr later ↦ place_later k (x ∷ rest) a (place_later x rest a later)
  ],
  λ i. (h a).1 (elim (places_cons k (x ∷ rest) a i) [
    | inl in_k ↦ place_here k' rest a (omega (arith, in_k.0), omega (arith, in_k.1))
    | inr other ↦ elim (places_cons x rest a other) [
      | inl in_x ↦ place_here k' rest a (omega (arith, in_x.0), omega (arith, in_x.1))
      | inr later ↦ place_later k' rest a later
    ]
  ]),
)

same_apart : (ys zs rest : List Segment) (k x : Segment) → ys ≡ k ∷ zs → SameAddresses zs (x ∷ rest) → SameAddresses ys (k ∷ x ∷ rest)
same_apart ys zs rest k x e h = subst (λ l. SameAddresses l (k ∷ x ∷ rest)) (sym e) (λ a. (
  λ i. elim (places_cons k zs a i) [ inl here ↦ place_here k (x ∷ rest) a here | inr later ↦ place_later k (x ∷ rest) a ((h a).0 later) ],
  λ i. elim (places_cons k (x ∷ rest) a i) [ inl here ↦ place_here k zs a here | inr later ↦ place_later k zs a ((h a).1 later) ],
))

module _ {S : Type 0} (R : S → Segment → Segment → Bool → S → Segment → Segment → Type 0)
    (reports : (s : S) (x k : Segment) (b : Bool) (t : S) (x' k' : Segment) → R s x k b t x' k' → Joins x k b x' k') where
  pub coalesces_from : (s : S) (k : Segment) (xs ys : List Segment) (low : ℕ) → DedupsFrom R s k xs ys → low ≤ k.addr → 0 < k.len → k.addr + k.len ≤ 4294967295
      → Rising k.addr xs → Coalesces low ys (k ∷ xs)
  coalesces_from s k [] ys low h l f w r = grind arith
  coalesces_from s k (x ∷ xs) ys low h l f w r =
      let j = reports s x k h.0 h.1 h.2 h.3 h.4 in
      elim (by_case h.0 _ _ h.5) [
        | inl (yes_, more) ↦
            let near : x.addr ≤ k.addr + k.len = leb-true x.addr (k.addr + k.len) (sym j.value ∙ yes_) in
            let end : h.3.addr + h.3.len ≡ max (k.addr + k.len) (x.addr + x.len) = omega (arith, j.end yes_, r.2, w) in
            let rest = coalesces_from h.1 h.3 xs ys low more (omega (arith, j.start, l)) (omega (arith, end, j.start, f)) (omega (arith, end, r.2, w))
            (Rising_lower h.3.addr x.addr xs (omega (arith, j.start, r.0)) r.3) in
            record { spaced = rest.spaced; same = same_longer ys xs k h.3 x rest.same r.0 near j.start end }
        | inr (no_, more) ↦
            let far : k.addr + k.len < x.addr = leb-false x.addr (k.addr + k.len) (sym j.value ∙ no_) in
            let is : ys ≡ k ∷ more.0 = more.2 ∙ ap (λ t. t ∷ more.0) (j.apart no_) in
            let from_x = subst (λ t. DedupsFrom R h.1 t xs more.0) j.next_same more.1 in
            let rest = coalesces_from h.1 x xs more.0 (k.addr + k.len + 1) from_x (omega (arith, far)) r.1 r.2 r.3 in
            record { spaced = subst (Spaced low) (sym is) (l, f, rest.spaced); same = same_apart ys more.0 xs k x is rest.same }
      ]

  pub coalesces : (s : S) (xs ys : List Segment) → IsDeduped R s xs ys → Rising 0 xs → Coalesces 0 ys xs
  coalesces s [] ys h r = grind arith
  coalesces s (x ∷ xs) ys h r = coalesces_from s x xs ys 0 h.told r.0 r.1 r.2 r.3

-- ---- the search

-- how many of the ranges begin below an address, which are the first ones, and how many end at an address or below it
abbrev pub BeginBelow : ℕ → List Segment → ℕ → Type 0
BeginBelow addr rs first = IsPartitionPoint (λ (r : Segment). r.addr < addr) (λ r. addr ≤ r.addr) rs first

abbrev pub EndBy : ℕ → List Segment → ℕ → Type 0
EndBy end rs past = IsPartitionPoint (λ (r : Segment). r.addr + r.len ≤ end) (λ r. end < r.addr + r.len) rs past

-- the ranges that end at or below the segment's first address have none of its addresses; if one of the others has one,
-- so does the first of them, since it begins no higher
pub meets_first : (rs : List Segment) (first : ℕ) (s : Segment) → IsOrdered rs → EndBy s.addr rs first → first < length rs
    → share (range_of s) (range_of (get_or rs first nowhere)) ≡ share (range_of s) (places rs)
meets_first rs first s o p within =
    let r = get_or rs first nowhere in
    let filled : 0 < r.len = o.filled first nowhere within in
    let after : s.addr < r.addr + r.len = p.1 first nowhere (omega arith) within in
    same_bool _ _
    (λ h. let w = shared_by _ _ h in share_true _ _ w.0 w.1 (in_places rs first nowhere w.0 within (range_in r.addr r.len w.0 w.2)))
    (λ h.
    let w = shared_by _ _ h in
    let at = places_in rs nowhere w.0 w.2 in
    let in_s = range_in s.addr s.len w.0 w.1 in
    elim (cases_lt at.k first) [
      | inl before ↦ absurd (omega (arith, p.0 at.k nowhere (omega arith) before, in_s.0, at.lies.1))
      | inr later ↦
          let order = o.starts first at.k nowhere later at.within in
          let a = max s.addr r.addr in
          share_true _ _ a (in_range s.addr s.len a (omega arith) (omega (arith, in_s.0, in_s.1, order, at.lies.0)))
          (in_range r.addr r.len a (omega arith) (omega (arith, after, filled)))
    ])

pub meets_none : (rs : List Segment) (first : ℕ) (s : Segment) → EndBy s.addr rs first → length rs ≤ first → share (range_of s) (places rs) ≡ false
meets_none rs first s p past =
    share_none _ _ (λ a i j.
    let at = places_in rs nowhere a j in
    omega (arith, p.0 at.k nowhere (omega arith) (omega (arith, at.within)), (range_in s.addr s.len a i).0, at.lies.1))

-- from `addr` on, no address below the first range that ends above `addr` is in a range
pub clear_before : (rs : List Segment) (first : ℕ) (addr len : ℕ) → IsOrdered rs → EndBy addr rs first → first < length rs
    → len ≤ (get_or rs first nowhere).addr - addr → IsClearOf rs addr len
clear_before rs first addr len o p within low a above below i =
    let at = places_in rs nowhere a i in
    elim (cases_lt at.k first) [
      | inl before ↦ omega (arith, p.0 at.k nowhere (omega arith) before, above, at.lies.1)
      | inr later ↦
          let order = o.starts first at.k nowhere later at.within in
          omega (arith, order, low, above, below, at.lies.0)
    ]

-- the first address from `addr` on that isn't below that range is in it
pub next_in : (rs : List Segment) (first : ℕ) (addr len : ℕ) → IsOrdered rs → EndBy addr rs first → first < length rs
    → len ≡ (get_or rs first nowhere).addr - addr → Contains (places rs) (addr + len)
next_in rs first addr len o p within is =
    let r = get_or rs first nowhere in
    let filled : 0 < r.len = o.filled first nowhere within in
    let after : addr < r.addr + r.len = p.1 first nowhere (omega arith) within in
    in_places rs first nowhere (addr + len) within (omega (arith, is), omega (arith, is, filled, after))

-- where all ranges end at `addr` or below, no address from there on is in a range
pub clear_past : (rs : List Segment) (first : ℕ) (addr len : ℕ) → EndBy addr rs first → length rs ≤ first → IsClearOf rs addr len
clear_past rs first addr len p past a above below i =
    let at = places_in rs nowhere a i in
    omega (arith, p.0 at.k nowhere (omega arith) (omega (arith, at.within)), above, at.lies.1)

-- so it is where the segment ends at the first range's first address or below it
pub below_all : (rs : List Segment) (s : Segment) → IsOrdered rs → s.addr + s.len ≤ (get_or rs 0 nowhere).addr → share (range_of s) (places rs) ≡ false
below_all rs s o low =
    share_none _ _ (λ a i j.
    let at = places_in rs nowhere a j in
    let first = o.starts 0 at.k nowhere (omega arith) at.within in
    omega (arith, low, first, at.lies.0, (range_in s.addr s.len a i).1))

-- and where it begins at the last range's end or above it
pub above_all : (rs : List Segment) (s : Segment) → IsOrdered rs → (get_or rs (length rs - 1) nowhere).addr + (get_or rs (length rs - 1) nowhere).len ≤ s.addr
    → share (range_of s) (places rs) ≡ false
above_all rs s o high =
    share_none _ _ (λ a i j.
    let at = places_in rs nowhere a j in
    let last = o.ends at.k (length rs - 1) nowhere (omega (arith, at.within)) (omega (arith, at.within)) in
    omega (arith, high, last, at.lies.1, (range_in s.addr s.len a i).0))

-- and where there are no ranges
pub none_at_all : (rs : List Segment) (s : Segment) → length rs ≡ 0 → share (range_of s) (places rs) ≡ false
none_at_all rs s none = share_none _ _ (λ a i j. let at = places_in rs nowhere a j in omega (arith, at.within, none))

-- coalesced ranges are in order
pub ordered_from : (rs : List Segment) → IsCoalesced rs → IsOrdered rs
ordered_from rs h = grind (arith, IsNonDecreasingBy-from_all_adjacent)

-- ---- one list for each set of addresses

-- the first address of coalesced ranges
first_place : (x : Segment) (xs : List Segment) (a : ℕ) → IsCoalesced (x ∷ xs) → Contains (places (x ∷ xs)) a → x.addr ≤ a
first_place x xs a h i = elim (places_cons x xs a i) [
  | inl here ↦ here.0
  | inr later ↦ let at = places_in xs nowhere a later in omega (arith, h.apart 0 (suc at.k) nowhere (omega arith) (omega (arith, at.within)), at.lies.0)
]

-- behind the first range, all addresses lie past its end
later_place : (x : Segment) (xs : List Segment) (a : ℕ) → IsCoalesced (x ∷ xs) → Contains (places xs) a → x.addr + x.len < a
later_place x xs a h i =
    let at = places_in xs nowhere a i in
    omega (arith, h.apart 0 (suc at.k) nowhere (omega arith) (omega (arith, at.within)), at.lies.0)

coalesced_rest : (x : Segment) (xs : List Segment) → IsCoalesced (x ∷ xs) → IsCoalesced xs
coalesced_rest x xs h = record {
  filled = All-tail (λ (s : Segment). 0 < s.len) x xs h.filled;
  apart = λ i j d l m. h.apart (suc i) (suc j) d (omega arith) (omega arith);
}

-- of two lists with the same addresses, the first range of the second begins no later, and ends no later
begins_by : (x y : Segment) (xs ys : List Segment) → IsCoalesced (x ∷ xs) → IsCoalesced (y ∷ ys) → SameAddresses (x ∷ xs) (y ∷ ys) → y.addr ≤ x.addr
begins_by x y xs ys h k same =
    first_place y ys x.addr k ((same x.addr).0 (place_here x xs x.addr (omega arith, omega (arith, h.filled 0 nowhere (omega arith)))))

ends_by : (x y : Segment) (xs ys : List Segment) → IsCoalesced (x ∷ xs) → SameAddresses (x ∷ xs) (y ∷ ys) → x.addr ≡ y.addr → y.addr + y.len ≤ x.addr + x.len
ends_by x y xs ys h same start = elim (cases_lt (x.addr + x.len) (y.addr + y.len)) [
  | inl past ↦
      let e = x.addr + x.len in
      absurd (elim (places_cons x xs e ((same e).1 (place_here y ys e (omega (arith, start), past)))) [
        | inl here ↦ omega (arith, here.1)
        | inr later ↦ omega (arith, later_place x xs e h later)
      ])
  | inr within ↦ within
]

same_segment : (x y : Segment) → x.addr ≡ y.addr → x.len ≡ y.len → x ≡ y
same_segment x y e f = ap (λ a. record { addr = a; len = x.len }) e ∙ ap (λ n. record { addr = y.addr; len = n }) f

-- the addresses of the later ranges
same_rest : (x : Segment) (xs ys : List Segment) → IsCoalesced (x ∷ xs) → IsCoalesced (x ∷ ys) → SameAddresses (x ∷ xs) (x ∷ ys) → SameAddresses xs ys
same_rest x xs ys h k same = λ a. (
  λ i. elim (places_cons x ys a ((same a).0 (place_later x xs a i))) [ inl here ↦ absurd (omega (arith, here.1, later_place x xs a h i)) | inr later ↦ later ],
  λ i. elim (places_cons x xs a ((same a).1 (place_later x ys a i))) [ inl here ↦ absurd (omega (arith, here.1, later_place x ys a k i)) | inr later ↦ later ],
)

-- so coalesced ranges with the same addresses are the same ranges
pub coalesced_same : (xs ys : List Segment) → IsCoalesced xs → IsCoalesced ys → SameAddresses xs ys → xs ≡ ys
coalesced_same [] [] h k same = refl
coalesced_same [] (y ∷ ys) h k same =
    let i = (same y.addr).1 (place_here y ys y.addr (omega arith, omega (arith, k.filled 0 nowhere (omega arith)))) in absurd (omega (arith, i.1))
coalesced_same (x ∷ xs) [] h k same =
    let i = (same x.addr).0 (place_here x xs x.addr (omega arith, omega (arith, h.filled 0 nowhere (omega arith)))) in absurd (omega (arith, i.1))
coalesced_same (x ∷ xs) (y ∷ ys) h k same =
    let back : SameAddresses (y ∷ ys) (x ∷ xs) = λ a. ((same a).1, (same a).0) in
    let start : x.addr ≡ y.addr = omega (arith, begins_by x y xs ys h k same, begins_by y x ys xs k h back) in
    let len : x.len ≡ y.len = omega (arith, start, ends_by x y xs ys h same start, ends_by y x ys xs k back (sym start)) in
    let one = sym (same_segment x y start len) in
    let k' = subst (λ (s : Segment). IsCoalesced (s ∷ ys)) one k in
    let same' = subst (λ (s : Segment). SameAddresses (x ∷ xs) (s ∷ ys)) one same in
    let rest = coalesced_same xs ys (coalesced_rest x xs h) (coalesced_rest y ys k) (same_rest x xs ys h k' same') in
    ap (λ (s : Segment). s ∷ xs) (sym one) ∙ ap (λ l. y ∷ l) rest

-- ---- sets of addresses in place of the lists that they were made of

-- ranges of a source list are ranges of the sources
pub sources_from : (src : List Segment) (t : Descriptor) → IsTransfer t → SameAddresses src t.src → HasSources src t
sources_from src t h same =
    λ a. (λ i. (same_sources t h a).0 ((same a).0 i), λ i. (same a).1 ((same_sources t h a).1 i))

-- the tests of a transfer, by ranges that have its sources' addresses and ranges that have its destinations'
pub writes_ranges : (u : Descriptor) (s : Segment) (dst : List Segment) → SameAddresses dst u.dst → share (range_of s) (places dst) ≡ writes u s
writes_ranges u s dst d = share_right (range_of s) (places dst) (destinations u) d

pub touches_ranges : (u : Descriptor) (s : Segment) (src dst : List Segment) → HasSources src u → SameAddresses dst u.dst
    → (share (range_of s) (places dst) || share (range_of s) (places src)) ≡ touches u s
touches_ranges u s src dst h d =
    ap (λ b. b || share (range_of s) (places src)) (writes_ranges u s dst d) ∙ ap (λ b. writes u s || b) (share_right (range_of s) (places src) (sources u) h)

pub is_free_of_ranges : (t u : Descriptor) (src dst : List Segment) → HasSources src u → SameAddresses dst u.dst
    → not (share (destinations t) (places dst) || (share (destinations t) (places src) || share (sources t) (places dst))) ≡ is_free_of t u
is_free_of_ranges t u src dst h d =
    let one = share_right (destinations t) (places dst) (destinations u) d in
    let two = share_right (destinations t) (places src) (sources u) h in
    let three = share_right (sources t) (places dst) (destinations u) d in
    rw (one, two, three) refl
