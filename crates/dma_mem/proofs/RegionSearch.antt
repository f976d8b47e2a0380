-- The regions that begin at or below an address, and what lies before the first address at which bursts fail.
use Rattle.std.proofs.Common.{◌≡◌, ℕ, ◌+◌, ◌-◌, ◌<◌, ◌≤◌, ◌⊎◌, List, [], ◌∷◌, length, get_or, drop, Bool, true, false, ◌&&◌, ◌||◌, nat_lt, refl, ap, sym, ◌∙◌}
use Rattle.std.proofs.Common.{subst, arith, inl, inr, zero, suc, cond}
use Rattle.std.specs.{Prelude.not, List.Sorted.IsNonDecreasingBy, List.Sorted.IsPartitionPoint, List.list_any}
use Rattle.std.proofs.lemmas.Bool.{leb-true, le-leb, ltb-true, and_parts, cases_lt, false_from_ne_true, or_left, or_right, or_cases, or_parts, or_from}
use Rattle.std.proofs.lemmas.Bool.{and_from, and_left, and_right, and_cases, ltb-false}
use Rattle.std.proofs.lemmas.List.{get_or-map, drop_more, length-map}
use Rattle.std.proofs.{lemmas.List.Folds.list_any-append, lemmas.List.Folds.list_any_none, lemmas.List.Sorted.IsNonDecreasingBy-from_all_adjacent}
use Rattle.dma_mem.specs.Regions.{Piece, end_of, piece_of, pieces_of, rises_from, in_order, gaps_above, gaps_of, has, read_only_of}
use Rattle.dma_mem.specs.inner.Rewritten.{bars, nowhere, piece_at}
use Rattle.dma_mem.specs.{declared.marks.MarkKind.MarkKind, declared.marks.MarkKind.TheVariants.Writing}
use Rattle.dma_mem.specs.{declared.regions.Region.Region, Lent.barred, Lent.lies_in_any, Marking.lies_in}
use Rattle.dma_mem.proofs.Pieces.{first, has_not, gaps_past, in_first_gap, past_first_gap, has_from, no_region, piece_at_item}

-- ---- pieces in order

above : (at : ℕ) (ps : List Piece) (j : ℕ) → rises_from at ps ≡ true → j < length ps → at ≤ (piece_at ps j).addr
above at [] j h l = absurd (omega arith)
above at (p ∷ ps) zero h l = let f = first at p ps h in f.after
above at (p ∷ ps) (suc j) h l =
    let f = first at p ps h in
    let after = f.after in
    omega (arith, above (end_of p) ps j f.rest (omega arith))

-- a piece ends at or below each later one
behind : (at : ℕ) (ps : List Piece) (i j : ℕ) → rises_from at ps ≡ true → i < j → j < length ps → end_of (piece_at ps i) ≤ (piece_at ps j).addr
behind at [] i j h less l = absurd (omega arith)
behind at (p ∷ ps) i zero h less l = absurd (omega arith)
behind at (p ∷ ps) zero (suc j) h less l = let f = first at p ps h in above (end_of p) ps j f.rest (omega arith)
behind at (p ∷ ps) (suc i) (suc j) h less l = let f = first at p ps h in behind (end_of p) ps i j f.rest (omega arith) (omega arith)

begins : (rs : List Region) (i : ℕ) (d : Region) → i < length rs → (piece_at (pieces_of rs) i).addr ≡ (get_or rs i d).addr
begins rs i d h = ap (λ (p : Piece). p.addr) (get_or-map piece_of rs i d nowhere h)

-- regions in order begin in rising order
pub begin_rising : (rs : List Region) → in_order (pieces_of rs) ≡ true → IsNonDecreasingBy (λ (r : Region). r.addr) rs
begin_rising rs h =
    IsNonDecreasingBy-from_all_adjacent (λ (r : Region). r.addr) rs (λ k d l.
    omega (
      arith,
      begins rs k d (omega arith),
      begins rs (k + 1) d l,
      behind 0 (pieces_of rs) k (k + 1) h (omega arith)
          (omega (arith, length-map rs piece_of)),
    ))

-- ---- the region that has an address

-- `n` regions begin at or below an address, the first ones
abbrev pub BeginBy : ℕ → List Region → ℕ → Type 0
BeginBy a rs n = IsPartitionPoint (λ (r : Region). r.addr ≤ a) (λ (r : Region). a < r.addr) rs n

-- none but the last of them has it
pub earlier : (rs : List Region) (a n k : ℕ) (d : Region) → in_order (pieces_of rs) ≡ true → n ≤ length rs → BeginBy a rs n → k + 1 < n
    → has a (piece_at (pieces_of rs) k) ≡ false
earlier rs a n k d h within begun less =
    let last = n - 1 in
    has_not a (piece_at (pieces_of rs) k)
    (inr (omega (
      arith,
      begun.0 last d (omega arith) (omega arith),
      begins rs last d (omega arith),
      behind 0 (pieces_of rs) k last h (omega arith)
          (omega (arith, length-map rs piece_of)),
    )))

-- no later one has it
later : (rs : List Region) (a n k : ℕ) (d : Region) → BeginBy a rs n → n ≤ k → k < length rs → has a (piece_at (pieces_of rs) k) ≡ false
later rs a n k d begun past less = has_not a (piece_at (pieces_of rs) k) (inl (omega (arith, begun.1 k d past less, begins rs k d less)))

-- no region has an address if none begins at or below it, or if the last that does ends before it
pub none_has : (rs : List Region) (a n k : ℕ) (d : Region) → in_order (pieces_of rs) ≡ true → n ≤ length rs → BeginBy a rs n
    → (0 < n → has a (piece_at (pieces_of rs) (n - 1)) ≡ false) → k < length rs → has a (piece_at (pieces_of rs) k) ≡ false
none_has rs a n k d h within begun last less = elim (cases_lt k n) [
  | inl before ↦ elim (cases_lt (k + 1) n) [
    | inl early ↦ earlier rs a n k d h within begun early
    | inr here ↦
        let same : n - 1 ≡ k = omega arith in
        subst (λ (i : ℕ). has a (piece_at (pieces_of rs) i) ≡ false) same (last (omega arith))
  ]
  | inr past ↦ later rs a n k d begun past less
]

-- ---- the first address at which bursts of a kind fail

-- whether an address is in a region in which bursts of a kind fail
abbrev closed : MarkKind → List Region → ℕ → Bool
closed kind rs a = list_any (λ r. bars kind r && has a (piece_of r)) rs

-- whether they fail at an address, in such a region or in a gap from `at` on
abbrev fails_from : MarkKind → ℕ → List Region → ℕ → Bool
fails_from kind at rs a = lies_in_any (gaps_above at (pieces_of rs)) a || closed kind rs a

-- the segments of read-only regions have these addresses
segment_is : (writable : Bool) (r : Region) (a : ℕ)
    → lies_in a (record { addr = r.addr; len = cond writable 0 (length r.bytes.now) }) ≡ (not writable && has a (piece_of r))
segment_is writable r a = grind (arith, false_from_ne_true, and_parts, nat_lt, leb-true, ltb-true)

read_only_is : (rs : List Region) (a : ℕ) → lies_in_any (read_only_of rs) a ≡ closed Writing rs a
read_only_is [] a = refl
read_only_is (r ∷ rs) a = grind (arith, segment_is, read_only_is rs a)

or_false : (b : Bool) → b ≡ (b || false)
or_false true = refl
or_false false = refl

barred_is : (kind : MarkKind) (rs : List Region) (a : ℕ) → lies_in_any (barred kind (gaps_of (pieces_of rs)) (read_only_of rs)) a ≡ fails_from kind 0 rs a
barred_is kind rs a = grind (arith, or_false, list_any_none, list_any-append, read_only_is)

closed_out : (kind : MarkKind) (r : Region) (rs : List Region) (a : ℕ) → (bars kind r ≡ false) ⊎ (has a (piece_of r) ≡ false)
    → closed kind (r ∷ rs) a ≡ closed kind rs a
closed_out kind r rs a out = ap (λ b. b || closed kind rs a) (elim out [ inl free ↦ and_left _ _ free | inr off ↦ and_right _ _ off ])

-- nothing lies below where regions begin
closed_past : (kind : MarkKind) (at : ℕ) (rs : List Region) (a : ℕ) → rises_from at (pieces_of rs) ≡ true → a < at → closed kind rs a ≡ false
closed_past kind at [] a h low = refl
closed_past kind at (r ∷ rs) a h low =
    let f = first at (piece_of r) (pieces_of rs) h in
    let after = f.after in
    closed_out kind r rs a (inr (has_not a (piece_of r) (inl (omega arith)))) ∙ closed_past kind (end_of (piece_of r)) rs a f.rest (omega arith)

fails_past : (kind : MarkKind) (at : ℕ) (rs : List Region) (a : ℕ) → rises_from at (pieces_of rs) ≡ true → a < at → fails_from kind at rs a ≡ false
fails_past kind at rs a h low = or_from _ _ (gaps_past at (pieces_of rs) a h low) (closed_past kind at rs a h low)

-- an address that is neither in the first gap nor in a first region in which they fail
skipped : (kind : MarkKind) (at : ℕ) (r : Region) (rs : List Region) (a : ℕ) → (a < at) ⊎ (r.addr ≤ a) → at ≤ r.addr → (bars kind r ≡ false)
    ⊎ (has a (piece_of r) ≡ false) → fails_from kind at (r ∷ rs) a ≡ fails_from kind (end_of (piece_of r)) rs a
skipped kind at r rs a out after free = grind (arith, past_first_gap, closed_out)

-- from the first address of the region at an index on, only that region and those behind it count
fails_at : (kind : MarkKind) (at : ℕ) (rs : List Region) (i a : ℕ) → rises_from at (pieces_of rs) ≡ true → i < length rs → (piece_at (pieces_of rs) i).addr ≤ a
    → fails_from kind at rs a ≡ fails_from kind 0 (drop i rs) a
fails_at kind at [] i a h l low = absurd (omega arith)
fails_at kind at (r ∷ rs) zero a h l low = grind (arith, past_first_gap)
fails_at kind at (r ∷ rs) (suc i) a h l low =
    let f = first at (piece_of r) (pieces_of rs) h in
    let after = above (end_of (piece_of r)) (pieces_of rs) i f.rest (omega (arith, length-map rs piece_of)) in
    skipped kind at r rs a (inr (omega (arith, after, low))) f.after (inr (has_not a (piece_of r) (inr (omega (arith, after, low)))))
    ∙ fails_at kind (end_of (piece_of r)) rs i a f.rest (omega arith) low

rises_at : (at : ℕ) (rs : List Region) (i : ℕ) → rises_from at (pieces_of rs) ≡ true → i < length rs → rises_from 0 (pieces_of (drop i rs)) ≡ true
rises_at at [] i h l = absurd (omega arith)
rises_at at (r ∷ rs) zero h l = grind (arith, le-leb)
rises_at at (r ∷ rs) (suc i) h l = let f = first at (piece_of r) (pieces_of rs) h in rises_at (end_of (piece_of r)) rs i f.rest (omega arith)

-- ---- the walk

-- The regions before `rest` end at or below `end`, and bursts of a kind fail at no address of theirs from `addr` on.
pub record Walk (kind : MarkKind) (rs rest : List Region) (addr end : ℕ) : Type 0 where
  pub rises : rises_from end (pieces_of rest) ≡ true
  pub same : (a : ℕ) → addr ≤ a → lies_in_any (barred kind (gaps_of (pieces_of rs)) (read_only_of rs)) a ≡ fails_from kind end rest a

-- it begins at the last region that begins at or below the address, or at the first region
pub walk_start : (kind : MarkKind) (rs : List Region) (addr n i : ℕ) → in_order (pieces_of rs) ≡ true → n ≤ length rs → BeginBy addr rs n → i ≡ n - 1
    → Walk kind rs (drop i rs) addr 0
walk_start kind rs addr n i h within begun is = elim (cases_lt 0 n) [
  | inr none ↦
      let zero_i : 0 ≡ i = omega arith in
      subst (λ (k : ℕ). Walk kind rs (drop k rs) addr 0) zero_i (record { rises = h; same = λ a low. barred_is kind rs a })
  | inl some ↦ record {
    rises = rises_at 0 rs i h (omega arith);
    same = λ a low. barred_is kind rs a
        ∙ fails_at kind 0 rs i a h (omega arith) (omega (arith, low, begins rs i no_region (omega arith), begun.0 i no_region (omega arith) (omega arith)));
  }
]

-- the region that it reads
pub drop_item : (rs : List Region) (i : ℕ) (r : Region) → i < length rs → r ≡ get_or rs i r → drop i rs ≡ r ∷ drop (i + 1) rs
drop_item rs i r h e = drop_more rs i r h ∙ ap (λ (x : Region). x ∷ drop (i + 1) rs) (sym e)

pub walk_item : (kind : MarkKind) (rs : List Region) (i : ℕ) (r : Region) (addr end : ℕ) → i < length rs → r ≡ get_or rs i r → Walk kind rs (drop i rs) addr end
    → Walk kind rs (r ∷ drop (i + 1) rs) addr end
walk_item kind rs i r addr end h e w = subst (λ (rest : List Region). Walk kind rs rest addr end) (drop_item rs i r h e) w

-- bursts of the kind fail nowhere below the end of the regions passed, nor anywhere behind all regions
pub walk_below : (kind : MarkKind) (rs rest : List Region) (addr end a : ℕ) → Walk kind rs rest addr end → addr ≤ a → a < end
    → lies_in_any (barred kind (gaps_of (pieces_of rs)) (read_only_of rs)) a ≡ false
walk_below kind rs rest addr end a w low high = w.same a low ∙ fails_past kind end rest a w.rises high

pub walk_end : (kind : MarkKind) (rs : List Region) (addr end a : ℕ) → Walk kind rs [] addr end → addr ≤ a
    → lies_in_any (barred kind (gaps_of (pieces_of rs)) (read_only_of rs)) a ≡ false
walk_end kind rs addr end a w low = w.same a low

-- whether they fail at an address, if the regions before this one end at or below it
abbrev pub fails : MarkKind → Region → ℕ → Bool
fails kind r a = nat_lt a r.addr || (bars kind r && nat_lt a (end_of (piece_of r)))

pub walk_fails : (kind : MarkKind) (rs : List Region) (r : Region) (rest : List Region) (addr end a : ℕ) → Walk kind rs (r ∷ rest) addr end → addr ≤ a → end ≤ a
    → fails kind r a ≡ true → lies_in_any (barred kind (gaps_of (pieces_of rs)) (read_only_of rs)) a ≡ true
walk_fails kind rs r rest addr end a w low passed e =
    grind (arith, cases_lt, or_left, in_first_gap, or_cases, nat_lt, ltb-true, and_parts, or_right, and_from, has_from)

-- past a region in which they don't
pub walk_on : (kind : MarkKind) (rs : List Region) (r : Region) (rest : List Region) (addr end from : ℕ) → Walk kind rs (r ∷ rest) addr end → (from ≡ addr)
    ⊎ (from ≡ end) → fails kind r from ≡ false → Walk kind rs rest addr (end_of (piece_of r))
walk_on kind rs r rest addr end from w is e =
    let f = first end (piece_of r) (pieces_of rest) w.rises in
    let neither = or_parts (nat_lt from r.addr) (bars kind r && nat_lt from (end_of (piece_of r))) e in
    let begun = ltb-false from r.addr neither.0 in
    record {
      rises = f.rest;
      same = λ a low. w.same a low ∙ elim (cases_lt a end) [
        | inl before ↦ skipped kind end r rest a (inl before) f.after (inr (has_not a (piece_of r) (inl (omega (arith, before, f.after)))))
        | inr past ↦
            let later : from ≤ a = elim is [ inl x ↦ omega (arith, x, low) | inr x ↦ omega (arith, x, past) ] in
            skipped kind end r rest a (inr (omega (arith, begun, later))) f.after
            (elim (and_cases (bars kind r) (nat_lt from (end_of (piece_of r))) neither.1) [
              | inl free ↦ inl free
              | inr over ↦ inr (has_not a (piece_of r) (inr (omega (arith, later, ltb-false from (end_of (piece_of r)) over))))
            ])
      ];
    }

-- ---- addresses in one region

-- bursts of a kind don't fail in a region that they may touch
pub region_clear : (kind : MarkKind) (rs : List Region) (k a : ℕ) (r : Region) → in_order (pieces_of rs) ≡ true → k < length rs → r ≡ get_or rs k r
    → (piece_at (pieces_of rs) k).addr ≤ a → a < end_of (piece_at (pieces_of rs) k) → bars kind r ≡ false
    → lies_in_any (barred kind (gaps_of (pieces_of rs)) (read_only_of rs)) a ≡ false
region_clear kind rs k a r h l is low high free =
    let here = drop_item rs k r l is in
    let p = piece_at_item rs k r l is in
    let f = first 0 (piece_of r) (pieces_of (drop (k + 1) rs)) (ap (λ (xs : List Region). rises_from 0 (pieces_of xs)) (sym here) ∙ rises_at 0 rs k h l) in
    barred_is kind rs a
    ∙ fails_at kind 0 rs k a h l low
    ∙ ap (λ (xs : List Region). fails_from kind 0 xs a) here
    ∙ skipped kind 0 r (drop (k + 1) rs) a (inr (omega (arith, low, ap (λ (q : Piece). q.addr) p))) (omega arith) (inl free)
    ∙ fails_past kind (end_of (piece_of r)) (drop (k + 1) rs) a f.rest (omega (arith, high, ap (λ (q : Piece). end_of q) p))
