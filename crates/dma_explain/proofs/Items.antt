-- Lists of items, to whose ends items are joined.
use Rattle.std.proofs.Common.{All, ◌≡◌, ℕ, zero, suc, ◌+◌, ◌^◌, ◌≤◌, ◌<◌, ◌⊎◌, List, [], ◌∷◌, ◌++◌, length, take, get_or, set, Option}
use Rattle.std.proofs.Common.{Some, None, refl, sym, ap, ◌∙◌, subst, arith, append-nil, append_assoc, inl, inr}
use Rattle.std.specs.{Prelude.replicate, List.flat_map, List.range_with_len, Option.option_map_or}
use Rattle.std.proofs.lemmas.Bool.Decides.{nat_tests}
use Rattle.std.proofs.lemmas.List.{length-set, take_all, take_more_set}
use Rattle.std.proofs.lemmas.List.Elements.{All-cons, All-head, All-nil, All-tail}
use Rattle.dma_mem.specs.{declared.segment.Segment.Segment, Places.places, Places.range_of}
use Rattle.dma_explain.specs.Items.{NoneJoin, Items, join_first, join_read, join_run, with_item}
use Rattle.dma_explain.specs.{declared.explain.Repeated.Repeated, Explains.IsRead, Explains.IsRun, Explains.unrolled, inner.Tracing.AreItems}
use Rattle.dma_chan.proofs.CutPlaces.{range_add}
use Rattle.dma_explain.proofs.LowestPlaces.{read_again, reads, unrolled_reads}

-- ---- lists of any items

module _ {A : Type 0} (join : A → A → Option A) where
  first_joined : (a b c : A) (rest : List A) → join a b ≡ Some c → join_first join a (b ∷ rest) ≡ c ∷ rest
  first_joined a b c rest e = ap (λ (o : Option A). option_map_or (λ d. d ∷ rest) o (a ∷ b ∷ rest)) e

  first_apart : (a b : A) (rest : List A) → join a b ≡ None → join_first join a (b ∷ rest) ≡ a ∷ b ∷ rest
  first_apart a b rest e = ap (λ (o : Option A). option_map_or (λ d. d ∷ rest) o (a ∷ b ∷ rest)) e

  -- the first item
  pub first_item : (xs : List A) (r : A) → length xs ≤ 0 → xs ++ r ∷ [] ≡ with_item join xs r
  first_item [] r none = refl
  first_item (x ∷ xs) r none = absurd (omega (arith, none))

  -- an item that is joined to the last of n + 1 items takes its place
  pub joins_at : (xs : List A) (n : ℕ) (d r all : A) → n < length xs → join (get_or xs n d) r ≡ Some all
      → with_item join (take (suc n) xs) r ≡ with_item join (take n xs) all
  joins_at [] n d r all within e = absurd (omega (arith, within))
  joins_at (x ∷ xs) zero d r all within e = first_joined x r all [] e
  joins_at (x ∷ xs) (suc n) d r all within e = ap (join_first join x) (joins_at xs n d r all (omega (arith, within)) e)

  -- one that can't be joined to it follows it
  pub ends_at : (xs : List A) (n : ℕ) (d r : A) → n < length xs → join (get_or xs n d) r ≡ None → NoneJoin join xs
      → with_item join (take (suc n) xs) r ≡ take (suc n) xs ++ r ∷ []
  ends_at [] n d r within e apart = absurd (omega (arith, within))
  ends_at (x ∷ xs) zero d r within e apart = first_apart x r [] e
  ends_at (x ∷ []) (suc n) d r within e apart = absurd (omega (arith, within))
  ends_at (x ∷ y ∷ xs) (suc n) d r within e apart =
      ap (join_first join x) (ends_at (y ∷ xs) n d r (omega (arith, within)) e apart.1) ∙ first_apart x y (take n xs ++ r ∷ []) apart.0

  -- an item that can't be joined to item n - 1 follows it
  pub settles : (xs : List A) (n : ℕ) (d all : A) → n < length xs → NoneJoin join xs → ((m : ℕ) → n ≡ suc m → join (get_or xs m d) all ≡ None)
      → with_item join (take n xs) all ≡ take n xs ++ all ∷ []
  settles xs zero d all within apart none = refl
  settles xs (suc m) d all within apart none = ends_at xs m d all (omega (arith, within)) (none m refl) apart

  -- neighbours
  pub apart_at : (xs : List A) (m : ℕ) (d : A) → suc m < length xs → NoneJoin join xs → join (get_or xs m d) (get_or xs (suc m) d) ≡ None
  apart_at [] m d within apart = absurd (omega (arith, within))
  apart_at (x ∷ []) m d within apart = absurd (omega (arith, within))
  apart_at (x ∷ y ∷ xs) zero d within apart = apart.0
  apart_at (x ∷ y ∷ xs) (suc m) d within apart = apart_at (y ∷ xs) m d (omega (arith, within)) apart.1

  -- the list is one item, or begins as before
  abbrev Grown : List A → List A → Type 0
  Grown items ys =
      ((c : A) × (ys ≡ c ∷ []))
      ⊎ ((a : A) × (rest : List A) × (more : List A) × (items ≡ a ∷ rest) × (ys ≡ a ∷ more) × NoneJoin join ys)

  grown : (items : List A) (r : A) → NoneJoin join items → Grown items (with_item join items r)
  grown [] r apart = inl (r, refl)
  grown (a ∷ items) r apart = elim (grown items r (tail a items apart)) [
    | inl one ↦
        let c = one.0 in
        let from : with_item join (a ∷ items) r ≡ join_first join a (c ∷ []) = ap (join_first join a) one.1 in
        let by : (o : Option A) → join a c ≡ o → Grown (a ∷ items) (with_item join (a ∷ items) r) = grind (arith, first_joined, first_apart) in
        by (join a c) refl
    | inr w ↦
        let b = w.0 in
        let apart_first : join a b ≡ None = head a items apart b w.1 w.3 in
        let is : with_item join (a ∷ items) r ≡ a ∷ b ∷ w.2 = ap (join_first join a) w.4 ∙ first_apart a b w.2 apart_first in
        inr (a, items, b ∷ w.2, refl, is, subst (NoneJoin join) (sym is) (apart_first, subst (NoneJoin join) w.4 w.5))
  ]
    where
      tail : (a : A) (xs : List A) → NoneJoin join (a ∷ xs) → NoneJoin join xs
      tail a [] apart = tt
      tail a (x ∷ xs) apart = apart.1

      head : (a : A) (xs : List A) → NoneJoin join (a ∷ xs) → (b : A) (rest : List A) → xs ≡ b ∷ rest → join a b ≡ None
      head a xs apart b rest e = (subst (λ (ys : List A). NoneJoin join (a ∷ ys)) e apart).0

  -- no two neighbours can be joined with one more item either
  pub still_apart : (items : List A) (r : A) → NoneJoin join items → NoneJoin join (with_item join items r)
  still_apart items r apart = elim (grown items r apart) [
    | inl one ↦ subst (NoneJoin join) (sym one.1) tt
    | inr w ↦ w.5
  ]

-- what holds of each item, and the addresses of all
module _ {A : Type 0} (join : A → A → Option A) (f : A → List ℕ) (P : A → Type 0)
    (sound : (a b c : A) → P a → P b → join a b ≡ Some c → P c × (f c ≡ f a ++ f b)) where
  first_sound : (a : A) (ys : List A) → P a → All P ys → All P (join_first join a ys) × (flat_map f (join_first join a ys) ≡ f a ++ flat_map f ys)
  first_sound a [] p ps = (All-cons P a [] p (All-nil P), refl)
  first_sound a (b ∷ rest) p ps =
      let Is : List A → Type 0 = λ xs. All P xs × (flat_map f xs ≡ f a ++ (f b ++ flat_map f rest)) in
      let by : (o : Option A) → join a b ≡ o → Is (option_map_or (λ c. c ∷ rest) o (a ∷ b ∷ rest)) =
      λ o. elim o as (λ o. join a b ≡ o → Is (option_map_or (λ c. c ∷ rest) o (a ∷ b ∷ rest))) [
        | None ↦ λ e. (All-cons P a (b ∷ rest) p ps, refl)
        | Some c ↦ λ e.
            let one = sound a b c p (All-head P b rest ps) e in
            (All-cons P c rest one.0 (All-tail P b rest ps), ap (λ (xs : List ℕ). xs ++ flat_map f rest) one.1 ∙ append_assoc (f a) (f b) (flat_map f rest))
      ] in
      by (join a b) refl

  pub more_sound : (items : List A) (r : A) → All P items → P r → All P (with_item join items r)
      × (flat_map f (with_item join items r) ≡ flat_map f items ++ f r)
  more_sound [] r ps p = (All-cons P r [] p (All-nil P), append-nil (f r))
  more_sound (a ∷ items) r ps p =
      let rest = more_sound items r (All-tail P a items ps) p in
      let first = first_sound a (with_item join items r) (All-head P a items ps) rest.0 in
      (first.0, first.1 ∙ ap (λ (xs : List ℕ). f a ++ xs) rest.1 ∙ sym (append_assoc (f a) (flat_map f items) (f r)))

-- ---- ranges

-- the second goes on where the first ends
abbrev RunOn : Segment → Segment → Type 0
RunOn a b = (a.addr + a.len ≡ b.addr) × (a.len + b.len < 2 ^ 32)

abbrev both_runs : Segment → Segment → Segment
both_runs a b = record a { len = a.len + b.len }

abbrev RunCases : Segment → Segment → Type 0
RunCases a b = (RunOn a b × (join_run a b ≡ Some (both_runs a b))) ⊎ ((RunOn a b → ⊥) × (join_run a b ≡ None))

pub run_cases : (a b : Segment) → RunCases a b
run_cases a b = grind (arith, nat_tests)

pub run_joins : (a b : Segment) → a.addr + a.len ≡ b.addr → a.len + b.len < 2 ^ 32 → join_run a b ≡ Some (both_runs a b)
run_joins a b at few = grind (arith, nat_tests)

run_sound : (a b c : Segment) → IsRun a → IsRun b → join_run a b ≡ Some c → IsRun c × (range_of c ≡ range_of a ++ range_of b)
run_sound a b c p q e = elim (run_cases a b) [
  | inl w ↦
      let is : both_runs a b ≡ c = let same : Some (both_runs a b) ≡ Some c = sym w.1 ∙ e in cc in
      subst (λ (s : Segment). IsRun s × (range_of s ≡ range_of a ++ range_of b)) is
      ((omega (arith, p), omega (arith, q, w.0)), range_add a.addr a.len b.len ∙ ap (λ (k : ℕ). range_of a ++ range_with_len k b.len) w.0.0)
  | inr w ↦ absurd (let bad : None ≡ Some c = sym w.1 ∙ e in cc)
]

-- a range that grows can't be joined to the one before it if it couldn't be before
pub run_settles : (z a b c : Segment) → join_run z a ≡ None → join_run a b ≡ Some c → join_run z c ≡ None
run_settles z a b c none e = elim (run_cases z c) [
  | inr w ↦ w.1
  | inl w ↦ elim (run_cases a b) [
    | inr v ↦ absurd (let bad : None ≡ Some c = sym v.1 ∙ e in cc)
    | inl v ↦
        let is : both_runs a b ≡ c = let same : Some (both_runs a b) ≡ Some c = sym v.1 ∙ e in cc in
        let at = ap (λ (s : Segment). s.addr) is in
        let long = ap (λ (s : Segment). s.len) is in
        absurd (let bad : Some (both_runs z a) ≡ None = sym (run_joins z a (omega (arith, at, w.0)) (omega (arith, long, w.0))) ∙ none in cc)
  ]
]

-- The last range of a list and one more become one.
pub run_grown : (xs : List Segment) (n : ℕ) (d r all : Segment) → n + 1 ≡ length xs → join_run (get_or xs n d) r ≡ Some all → NoneJoin join_run xs
    → set xs n all ≡ with_item join_run xs r
run_grown xs n d r all last e apart =
    let within : n < length xs = omega (arith, last) in
    let none : (m : ℕ) → n ≡ suc m → join_run (get_or xs m d) all ≡ None = λ m is.
    run_settles (get_or xs m d) (get_or xs n d) r all
    (subst (λ (k : ℕ). join_run (get_or xs m d) (get_or xs k d) ≡ None) (sym is) (apart_at join_run xs m d (omega (arith, is, within)) apart)) e in
    sym (take_all (n + 1) (set xs n all) (omega (arith, last, length-set xs n all)))
    ∙ take_more_set xs n all within ∙ sym (settles join_run xs n d all within apart none)
    ∙ sym (joins_at join_run xs n d r all within e) ∙ ap (λ (ys : List Segment). with_item join_run ys r) (take_all (suc n) xs (omega (arith, last)))

-- or the second follows the first
pub run_added : (xs : List Segment) (n : ℕ) (d r : Segment) → n + 1 ≡ length xs → join_run (get_or xs n d) r ≡ None → NoneJoin join_run xs
    → xs ++ r ∷ [] ≡ with_item join_run xs r
run_added xs n d r last e apart =
    let all = take_all (suc n) xs (omega (arith, last)) in
    ap (λ (ys : List Segment). ys ++ r ∷ []) (sym all) ∙ sym (ends_at join_run xs n d r (omega (arith, last)) e apart)
    ∙ ap (λ (ys : List Segment). with_item join_run ys r) all

-- the ranges and the addresses with one more range
pub runs_with : (items : List Segment) (r : Segment) → All IsRun items → IsRun r → All IsRun (with_item join_run items r)
    × (places (with_item join_run items r) ≡ places items ++ range_of r)
runs_with = more_sound join_run range_of IsRun run_sound

-- ---- ranges that are read

-- the second item reads the first one's range again
abbrev Again : Repeated → Repeated → Type 0
Again a b = (a.addr ≡ b.addr) × (a.len ≡ b.len) × (a.times + b.times < 2 ^ 32)

-- both are read once, and the second goes on where the first ends
abbrev ReadOn : Repeated → Repeated → Type 0
ReadOn a b = (a.times ≡ 1) × (b.times ≡ 1) × (a.addr + a.len ≡ b.addr) × (a.len + b.len < 2 ^ 32)

abbrev pub read_twice : Repeated → Repeated → Repeated
read_twice a b = record a { times = a.times + b.times }

abbrev pub read_longer : Repeated → Repeated → Repeated
read_longer a b = record a { len = a.len + b.len }

pub again_joins : (a b : Repeated) → Again a b → join_read a b ≡ Some (read_twice a b)
again_joins a b w = grind (arith, nat_tests)

abbrev ReadCases : Repeated → Repeated → Type 0
ReadCases a b =
    (Again a b × (join_read a b ≡ Some (read_twice a b)))
    ⊎ ((ReadOn a b × (join_read a b ≡ Some (read_longer a b)))
    ⊎ ((Again a b → ⊥) × (ReadOn a b → ⊥) × (join_read a b ≡ None)))

pub read_cases : (a b : Repeated) → ReadCases a b
read_cases a b = grind (arith, nat_tests)

read_sound : (a b c : Repeated) → IsRead a → IsRead b → join_read a b ≡ Some c → IsRead c × (reads c ≡ reads a ++ reads b)
read_sound a b c p q e = elim (read_cases a b) [
  | inl w ↦
      let is : read_twice a b ≡ c = let same : Some (read_twice a b) ≡ Some c = sym w.1 ∙ e in cc in
      subst (λ (r : Repeated). IsRead r × (reads r ≡ reads a ++ reads b)) is (
        (omega (arith, p), p.1),
        read_again a.addr a.len a.times b.times
            ∙ ap (λ (k : ℕ). reads a ++ reads (record { addr = k; len = a.len; times = b.times })) w.0.0
            ∙ ap (λ (n : ℕ). reads a ++ reads (record { addr = b.addr; len = n; times = b.times })) w.0.1,
      )
  | inr (inl w) ↦
      let is : read_longer a b ≡ c = let same : Some (read_longer a b) ≡ Some c = sym w.1 ∙ e in cc in
      let once : (r : Repeated) → r.times ≡ 1 → reads r ≡ range_with_len r.addr r.len = λ r one.
      ap (λ (n : ℕ). places (replicate n (record { addr = r.addr; len = r.len }))) one ∙ append-nil (range_with_len r.addr r.len) in
      subst (λ (r : Repeated). IsRead r × (reads r ≡ reads a ++ reads b)) is (
        (p.0, (omega (arith, p), omega (arith, q, w.0))),
        once (read_longer a b) w.0.0 ∙ range_add a.addr a.len b.len
            ∙ ap (λ (k : ℕ). range_with_len a.addr a.len ++ range_with_len k b.len) w.0.2
            ∙ ap (λ (xs : List ℕ). xs ++ range_with_len b.addr b.len) (sym (once a w.0.0))
            ∙ ap (λ (xs : List ℕ). reads a ++ xs) (sym (once b w.0.1)),
      )
  | inr (inr w) ↦ absurd (let bad : None ≡ Some c = sym w.2 ∙ e in cc)
]

-- the items and the addresses with one more item
pub reads_with : (items : List Repeated) (r : Repeated) → All IsRead items → IsRead r → All IsRead (with_item join_read items r)
    × (places (unrolled (with_item join_read items r)) ≡ places (unrolled items) ++ reads r)
reads_with items r ps p =
    let w = more_sound join_read reads IsRead read_sound items r ps p in
    (w.0, unrolled_reads (with_item join_read items r) ∙ w.1 ∙ ap (λ (xs : List ℕ). xs ++ reads r) (sym (unrolled_reads items)))

-- ---- the lists of a program

pub with_read : (x : Items) (r : Repeated) → AreItems x → IsRead r → AreItems (record x { reads = with_item join_read x.reads r })
with_read x r h p = record {
  reads = (reads_with x.reads r h.reads p).0;
  writes = h.writes;
  zeros = h.zeros;
  reads_joined = still_apart join_read x.reads r h.reads_joined;
  writes_joined = h.writes_joined;
  zeros_joined = h.zeros_joined;
}

pub with_run : (x : Items) (r : Segment) → AreItems x → IsRun r → AreItems (record x { writes = with_item join_run x.writes r })
with_run x r h p = record {
  reads = h.reads;
  writes = (runs_with x.writes r h.writes p).0;
  zeros = h.zeros;
  reads_joined = h.reads_joined;
  writes_joined = still_apart join_run x.writes r h.writes_joined;
  zeros_joined = h.zeros_joined;
}

pub with_zeros : (x : Items) (r : Segment) → AreItems x → IsRun r → AreItems (record x { zeros = with_item join_run x.zeros r })
with_zeros x r h p = record {
  reads = h.reads;
  writes = h.writes;
  zeros = (runs_with x.zeros r h.zeros p).0;
  reads_joined = h.reads_joined;
  writes_joined = h.writes_joined;
  zeros_joined = still_apart join_run x.zeros r h.zeros_joined;
}
