-- The tests of `Places` as facts about addresses.
use Rattle.std.proofs.Common.{◌≡◌, ℕ, ◌+◌, ◌-◌, ◌<◌, ◌≤◌, max, arith, ◌∷◌, ◌++◌, [], List, length, inl, inr, ◌⊎◌, get_or, true, false, Bool, refl, sym, ◌∙◌}
use Rattle.std.proofs.Common.{◌||◌}
use Rattle.std.specs.{Prelude.nat_eq, Prelude.nat_lt, Prelude.IsTrue, Prelude.◌↔◌, List.Contains, List.list_any, List.range_with_len}
use Rattle.std.proofs.lemmas.Bool.{cases_lt, leb-true, lt-ltb, le-ltb, or_parts, not-true, false_from_ne_true, eqb-true}
use Rattle.std.proofs.lemmas.List.Folds.{list_any_at, list_any_none, list_any-append, Any-from_list_any}
use Rattle.std.proofs.{lemmas.Cmp.nat_eq_equiv, lemmas.List.FromFn.length-range_with_len, lemmas.List.FromFn.get_or-range_with_len}
use Rattle.std.proofs.{lemmas.Map.Views.list_any-from_Contains, lemmas.Map.Views.Contains-from_any, lemmas.List.Elements.Contains-get_or}
use Rattle.std.proofs.{lemmas.List.Sums.AllPass-from_list_all, lemmas.Bool.Decides.same_from_decides}
use Rattle.dma_mem.specs.Places.{Apart, Descriptor, all_below, share, is_free_of, touches, writes, places, sources, destinations}
use Rattle.dma_mem.specs.{declared.segment.Segment.Segment, Meeting.IsFree}

pub share_false : (xs ys : List ℕ) → share xs ys ≡ false → Apart xs ys
unfolding share
share_false xs ys h = grind (arith, list_any-from_Contains, nat_eq_equiv, list_any_at)

-- with no address in common they share none
pub share_none : (xs ys : List ℕ) → Apart xs ys → share xs ys ≡ false
unfolding share
share_none xs ys h =
    list_any_none (λ b. list_any (nat_eq b) ys) xs
    (λ k d l. false_from_ne_true _ (λ e. h (get_or xs k d) (Contains-get_or xs k d l) (Contains-from_any eqb-true (get_or xs k d) ys e)))

pub is_free_of_true : (t u : Descriptor) → is_free_of t u ≡ true → IsFree t u
is_free_of_true t u h =
    let none = not-true (share (destinations t) (destinations u) || (share (destinations t) (sources u) || share (sources t) (destinations u))) h in
    let parts = or_parts _ _ none in
    let rest = or_parts _ _ parts.1 in
    record {
      writes_none = share_false (destinations t) (destinations u) parts.0;
      writes_no_source = share_false (destinations t) (sources u) rest.0;
      reads_none = share_false (sources t) (destinations u) rest.1;
    }

-- an answer that is the test's is true exactly where the transfer is free of the other
pub is_free_of_iff : (t u : Descriptor) (r : Bool) → r ≡ is_free_of t u → IsTrue r ↔ IsFree t u
is_free_of_iff t u r e = grind (arith, is_free_of_true, share_none)

-- the transfer writes one of these addresses; it writes or reads one
abbrev pub Writes : Descriptor → List ℕ → Type 0
Writes t range = (a : ℕ) × Contains range a × Contains (destinations t) a

abbrev pub Touches : Descriptor → List ℕ → Type 0
Touches t range = (a : ℕ) × Contains range a × (Contains (destinations t) a ⊎ Contains (sources t) a)

pub touches_false : (t : Descriptor) (s : Segment) → touches t s ≡ false → ¬ Touches t (range_with_len s.addr s.len)
touches_false t s h = λ (a, i, j).
    let parts = or_parts _ _ h in
    elim j [
      | inl d ↦ share_false (range_with_len s.addr s.len) (destinations t) parts.0 a i d
      | inr r ↦ share_false (range_with_len s.addr s.len) (sources t) parts.1 a i r
    ]

pub writes_false : (t : Descriptor) (s : Segment) → writes t s ≡ false → ¬ Writes t (range_with_len s.addr s.len)
writes_false t s h = λ (a, i, j). share_false (range_with_len s.addr s.len) (destinations t) h a i j

pub share_true : (xs ys : List ℕ) (a : ℕ) → Contains xs a → Contains ys a → share xs ys ≡ true
unfolding share
share_true xs ys a i j = grind (arith, list_any-from_Contains, nat_eq_equiv, list_any_at)

pub shared_by : (xs ys : List ℕ) → share xs ys ≡ true → (a : ℕ) × Contains xs a × Contains ys a
unfolding share
shared_by xs ys h = grind (arith, Any-from_list_any, Contains-from_any, eqb-true)

pub same_bool : (a b : Bool) → (a ≡ true → b ≡ true) → (b ≡ true → a ≡ true) → a ≡ b
same_bool a b f g = same_from_decides a b (f, g) (λ e. e, λ e. e)

pub share_sym : (xs ys : List ℕ) → share xs ys ≡ share ys xs
share_sym xs ys =
    same_bool (share xs ys) (share ys xs)
    (λ h. let w = shared_by xs ys h in share_true ys xs w.0 w.2 w.1)
    (λ h. let w = shared_by ys xs h in share_true xs ys w.0 w.2 w.1)

pub share_right : (xs ys zs : List ℕ) → ((a : ℕ) → Contains ys a ↔ Contains zs a) → share xs ys ≡ share xs zs
share_right xs ys zs h =
    same_bool _ _ (λ e. let w = shared_by xs ys e in share_true xs zs w.0 w.1 ((h w.0).0 w.2))
    (λ e. let w = shared_by xs zs e in share_true xs ys w.0 w.1 ((h w.0).1 w.2))

-- two ranges of addresses
pub in_range : (a n x : ℕ) → a ≤ x → x < a + n → Contains (range_with_len a n) x
in_range a n x low high =
    (x - a, omega (arith, length-range_with_len a n), get_or-range_with_len a n (x - a) x (omega arith) ∙ omega arith)

pub range_in : (a n x : ℕ) → Contains (range_with_len a n) x → (a ≤ x) × (x < a + n)
range_in a n x h = grind (arith, length-range_with_len, get_or-range_with_len)

pub ranges_apart : (a m b n : ℕ) → ((x : ℕ) → a ≤ x → x < a + m → b ≤ x → x < b + n → ⊥) → share (range_with_len a m) (range_with_len b n) ≡ false
ranges_apart a m b n h = share_none _ _ (λ x i j. h x (range_in a m x i).0 (range_in a m x i).1 (range_in b n x j).0 (range_in b n x j).1)

pub ranges_meet : (a m b n : ℕ) → 0 < m → 0 < n → a < b + n → b < a + m → share (range_with_len a m) (range_with_len b n) ≡ true
ranges_meet a m b n p q r s =
    share_true _ _ (max a b) (in_range a m (max a b) (omega arith) (omega arith)) (in_range b n (max a b) (omega arith) (omega arith))

-- so the test of their ends is the test of their addresses
pub ranges_past : (a m b n x y : ℕ) → b + n ≤ a → x ≡ a → y ≡ b + n → nat_lt x y ≡ share (range_with_len a m) (range_with_len b n)
ranges_past a m b n x y h d e = le-ltb x y (omega arith) ∙ sym (ranges_apart a m b n (λ k i j p q. omega arith))

pub ranges_tested : (a m b n x y : ℕ) → 0 < m → 0 < n → a < b + n → x ≡ b → y ≡ a + m → nat_lt x y ≡ share (range_with_len a m) (range_with_len b n)
ranges_tested a m b n x y p q h d e = grind (arith, cases_lt, lt-ltb, ranges_meet, le-ltb, ranges_apart)

-- an answer that is the test's is true exactly where an address is in both lists
pub share_iff : (xs ys : List ℕ) (r : Bool) → r ≡ share xs ys → IsTrue r ↔ ((a : ℕ) × Contains xs a × Contains ys a)
share_iff xs ys r e = (λ h. shared_by xs ys (sym e ∙ h), λ (a, i, j). e ∙ share_true xs ys a i j)

pub share_append_left : (xs ys zs : List ℕ) → share (xs ++ ys) zs ≡ (share xs zs || share ys zs)
unfolding share
share_append_left xs ys zs = list_any-append (λ a. list_any (nat_eq a) zs) xs ys

share_append_right : (xs ys zs : List ℕ) → share xs (ys ++ zs) ≡ (share xs ys || share xs zs)
share_append_right xs ys zs = share_sym xs (ys ++ zs) ∙ share_append_left ys zs xs ∙ rw (share_sym ys xs, share_sym zs xs) refl

-- a list is met where one of its segments is
pub share_places : (xs : List ℕ) (list : List Segment) → list_any (λ s. share xs (range_with_len s.addr s.len)) list ≡ share xs (places list)
share_places xs [] = sym (share_none xs [] (λ a i j. omega (arith, j.1)))
share_places xs (s ∷ rest) = grind (arith, share_append_right, share_places xs rest)

-- a list has an address of the set where one of its segments has
pub share_each : (list : List Segment) (ys : List ℕ) → list_any (λ s. share (range_with_len s.addr s.len) ys) list ≡ share (places list) ys
share_each [] ys = sym (share_none [] ys (λ a i j. omega (arith, i.1)))
share_each (s ∷ rest) ys = grind (arith, share_append_left, share_each rest ys)

-- each segment of a list that lies below a size ends there at most
pub ends_below : (list : List Segment) (size i : ℕ) (d : Segment) → all_below list size ≡ true → i < length list
    → (get_or list i d).addr + (get_or list i d).len ≤ size
ends_below list size i d h l = leb-true _ size (AllPass-from_list_all _ list h i d l)
