-- The pieces of a memory: their order, the image and the gaps that they make, and the piece that has an address.
use Rattle.std.proofs.Common.{◌≡◌, ℕ, ◌+◌, ◌-◌, ◌<◌, ◌≤◌, List, [], ◌∷◌, ◌++◌, length, get_or, drop, replicate, true, false, nat_lt, refl, ap, sym, ◌∙◌, arith, inl, inr, ◌⊎◌, zero, suc}
use Rattle.std.specs.Prelude.{nat_le}
use Rattle.std.proofs.Math.ListN.{get_or-map as get_or-map_all}
use Rattle.std.proofs.lemmas.Bool.{leb-true, le-leb, ltb-true, lt-ltb, and_parts, cases_lt, false_from_ne_true, cases_Bool}
use Rattle.std.proofs.lemmas.List.{get_or-map, drop_more, length-append, length-replicate, length-drop, get_or_append_left, get_or-append_right, get_or-replicate}
use Rattle.dma_mem.specs.declared.regions.Region.{Region}
use Rattle.dma_mem.specs.Lent.{lies_in_any}
use Rattle.dma_mem.specs.Regions.{Piece, end_of, piece_of, pieces_of, rises_from, in_order, bytes_above, image_of, gaps_above, has}
use Rattle.dma_mem.specs.inner.Rewritten.{nowhere, piece_at, rest_from}

-- ---- pieces by their indices

-- what a goal has for a region past the last
abbrev pub no_region : Region
no_region = record { addr = 0; bytes = record { ref_ptr = (0, 0); ghost_name = 0; now = [] }; read_only = 0 }

pub piece_at_of : (rs : List Region) (i : ℕ) → piece_at (pieces_of rs) i ≡ piece_of (get_or rs i no_region)
piece_at_of rs i = get_or-map_all piece_of rs i no_region

-- the piece of a region that a loop reads
pub piece_at_item : (rs : List Region) (i : ℕ) (r : Region) → i < length rs → r ≡ get_or rs i r → piece_at (pieces_of rs) i ≡ piece_of r
piece_at_item rs i r h e = get_or-map piece_of rs i r nowhere h ∙ ap piece_of (sym e)

pub drop_at : (ps : List Piece) (i : ℕ) → i < length ps → drop i ps ≡ piece_at ps i ∷ drop (i + 1) ps
drop_at ps i h = drop_more ps i nowhere h

-- ---- their order

-- what holds of the first of pieces that rise
pub record First (at : ℕ) (p : Piece) (ps : List Piece) : Type 0 where
  pub after : at ≤ p.addr
  pub most : end_of p ≤ 4294967296
  pub rest : rises_from (end_of p) ps ≡ true

pub first : (at : ℕ) (p : Piece) (ps : List Piece) → rises_from at (p ∷ ps) ≡ true → First at p ps
first at p ps h = grind (arith, and_parts, leb-true)

-- the pieces from an index on rise where those after it do, from the end of its piece
pub rises_more : (ps : List Piece) (p : Piece) (i at : ℕ) → i < length ps → piece_at ps i ≡ p → at ≤ p.addr → end_of p ≤ 4294967296
    → rises_from at (drop i ps) ≡ rises_from (end_of p) (drop (i + 1) ps)
rises_more ps p i at h is after most = grind (arith, drop_at, le-leb)

-- and don't, where it begins too low or ends too high
pub rises_not : (ps : List Piece) (p : Piece) (i at : ℕ) → i < length ps → piece_at ps i ≡ p → (p.addr < at) ⊎ (4294967296 < end_of p)
    → rises_from at (drop i ps) ≡ false
rises_not ps p i at h is bad = grind (arith, drop_at, false_from_ne_true)

-- ---- the size

-- the address behind the last piece
pub end_from : ℕ → List Piece → ℕ
end_from at [] = at
end_from at (p ∷ ps) = end_from (end_of p) ps

pub length_bytes_above : (at : ℕ) (ps : List Piece) → rises_from at ps ≡ true → at + length (bytes_above at ps) ≡ end_from at ps
unfolding end_from
length_bytes_above at [] h = omega arith
length_bytes_above at (p ∷ ps) h =
    let f = first at p ps h in
    let after = f.after in
    let pad : List ℕ = replicate (p.addr - at) 0 in
    let more = p.bytes ++ bytes_above (end_of p) ps in
    let next = length_bytes_above (end_of p) ps f.rest in
    let long : length pad ≡ p.addr - at = length-replicate (p.addr - at) 0 in
    omega (arith, next, long, length-append pad more, length-append p.bytes (bytes_above (end_of p) ps))

pub end_from_last : (at : ℕ) (ps : List Piece) (i : ℕ) → i + 1 ≡ length ps → end_from at ps ≡ end_of (piece_at ps i)
unfolding end_from
end_from_last at [] i h = absurd (omega arith)
end_from_last at (p ∷ []) zero h = refl
end_from_last at (p ∷ []) (suc i) h = absurd (omega arith)
end_from_last at (p ∷ (q ∷ qs)) zero h = absurd (omega arith)
end_from_last at (p ∷ (q ∷ qs)) (suc i) h = end_from_last (end_of p) (q ∷ qs) i (omega arith)

end_from_most : (at : ℕ) (ps : List Piece) → at ≤ 4294967296 → rises_from at ps ≡ true → end_from at ps ≤ 4294967296
unfolding end_from
end_from_most at [] low h = low
end_from_most at (p ∷ ps) low h = let f = first at p ps h in end_from_most (end_of p) ps f.most f.rest

-- the size is the end of the last piece
pub length_image_of : (ps : List Piece) (i : ℕ) → in_order ps ≡ true → i + 1 ≡ length ps → length (image_of ps) ≡ end_of (piece_at ps i)
length_image_of ps i h last = omega (arith, length_bytes_above 0 ps h, end_from_last 0 ps i last)

pub image_of_most : (ps : List Piece) → in_order ps ≡ true → length (image_of ps) ≤ 4294967296
image_of_most ps h = omega (arith, length_bytes_above 0 ps h, end_from_most 0 ps (omega arith) h)

-- ---- the gaps

-- no gap has an address below where they begin
pub gaps_past : (at : ℕ) (ps : List Piece) (a : ℕ) → rises_from at ps ≡ true → a < at → lies_in_any (gaps_above at ps) a ≡ false
gaps_past at [] a h low = refl
gaps_past at (p ∷ ps) a h low =
    let f = first at p ps h in
    let after = f.after in
    rw (false_from_ne_true (nat_le at a) (λ e. omega (arith, leb-true at a e)), gaps_past (end_of p) ps a f.rest (omega arith)) refl

-- an address below the first piece lies in the first gap
pub in_first_gap : (at : ℕ) (p : Piece) (ps : List Piece) (a : ℕ) → at ≤ a → a < p.addr → lies_in_any (gaps_above at (p ∷ ps)) a ≡ true
in_first_gap at p ps a low high = rw (le-leb at a low, lt-ltb a (at + (p.addr - at)) (omega arith)) refl

-- an address that the first gap doesn't have lies in a gap where it lies in a later one
pub past_first_gap : (at : ℕ) (p : Piece) (ps : List Piece) (a : ℕ) → (a < at) ⊎ (p.addr ≤ a) → at ≤ p.addr
    → lies_in_any (gaps_above at (p ∷ ps)) a ≡ lies_in_any (gaps_above (end_of p) ps) a
past_first_gap at p ps a out after = grind (arith, false_from_ne_true, and_parts, nat_lt, leb-true, ltb-true)

-- ---- the piece that has an address

pub has_from : (a : ℕ) (p : Piece) → p.addr ≤ a → a < end_of p → has a p ≡ true
has_from a p low high = rw (le-leb p.addr a low, lt-ltb a (end_of p) high) refl

pub has_not : (a : ℕ) (p : Piece) → (a < p.addr) ⊎ (end_of p ≤ a) → has a p ≡ false
has_not a p out = grind (arith, false_from_ne_true, and_parts, nat_lt, leb-true, ltb-true)

pub has_parts : (a : ℕ) (p : Piece) → has a p ≡ true → (p.addr ≤ a) × (a < end_of p)
has_parts a p h = let parts = and_parts (nat_le p.addr a) (nat_lt a (end_of p)) h in (leb-true p.addr a parts.0, ltb-true a (end_of p) parts.1)

-- an address below the size that no gap has lies in a piece
pub found : (at : ℕ) (ps : List Piece) (a : ℕ) → rises_from at ps ≡ true → at ≤ a → a < end_from at ps → lies_in_any (gaps_above at ps) a ≡ false
    → ((k : ℕ) → k < length ps → has a (piece_at ps k) ≡ false) → ⊥
unfolding end_from
found at [] a h low high gaps none = omega arith
found at (p ∷ ps) a h low high gaps none =
    let f = first at p ps h in
    elim (cases_lt a p.addr) [
      | inl below ↦ let yes = in_first_gap at p ps a low below in cc
      | inr begun ↦ elim (cases_lt a (end_of p)) [
        | inl inside ↦ let yes = has_from a p begun inside in let no : has a p ≡ false = none 0 (omega arith) in cc
        | inr past ↦ found (end_of p) ps a f.rest past high (sym (past_first_gap at p ps a (inr begun) f.after) ∙ gaps) (λ k l. none (suc k) (omega arith))
      ]
    ]

-- ---- the bytes from an address on

pub rest_at : (ps : List Piece) (i a : ℕ) → i < length ps → ((k : ℕ) → k < i → has a (piece_at ps k) ≡ false) → has a (piece_at ps i) ≡ true
    → rest_from ps a ≡ drop (a - (piece_at ps i).addr) (piece_at ps i).bytes
rest_at [] i a h before here = absurd (omega arith)
rest_at (p ∷ ps) zero a h before here = rw here refl
rest_at (p ∷ ps) (suc i) a h before here =
    let no : has a p ≡ false = before 0 (omega arith) in
    rw no (rest_at ps i a (omega arith) (λ k l. before (suc k) (omega arith)) here)

pub rest_none : (ps : List Piece) (a : ℕ) → ((k : ℕ) → k < length ps → has a (piece_at ps k) ≡ false) → rest_from ps a ≡ []
rest_none [] a none = refl
rest_none (p ∷ ps) a none =
    let no : has a p ≡ false = none 0 (omega arith) in
    rw no (rest_none ps a (λ k l. none (suc k) (omega arith)))

-- there are none, or a piece has the address
pub rest_is : (ps : List Piece) (a : ℕ) → (rest_from ps a ≡ [])
    ⊎ ((i : ℕ) × (i < length ps) × (has a (piece_at ps i) ≡ true) × (rest_from ps a ≡ drop (a - (piece_at ps i).addr) (piece_at ps i).bytes))
rest_is [] a = inl refl
rest_is (p ∷ ps) a = elim (cases_Bool (has a p)) [
  | inl here ↦ inr (0, omega arith, here, rw here refl)
  | inr off ↦ elim (rest_is ps a) [ inl none ↦ inl (rw off none) | inr w ↦ inr (suc w.0, omega (arith, w.1), w.2, rw off w.3) ]
]

-- the image has 0 where there are none
pub zero_shown : (at : ℕ) (ps : List Piece) (k x : ℕ) → rises_from at ps ≡ true → at + k ≡ x → rest_from ps x ≡ [] → get_or (bytes_above at ps) k 0 ≡ 0
zero_shown at [] k x h is none = refl
zero_shown at (p ∷ ps) k x h is none =
    let f = first at p ps h in
    let after = f.after in
    let n = p.addr - at in
    let pad : List ℕ = replicate n 0 in
    let later = bytes_above (end_of p) ps in
    let long : length pad ≡ n = length-replicate n 0 in
    elim (cases_lt k n) [
      | inl below ↦ get_or_append_left pad (p.bytes ++ later) 0 k (omega arith) ∙ get_or-replicate n k 0 0 below
      | inr begun ↦ elim (cases_lt x (end_of p)) [
        | inl inside ↦
            let here : rest_from (p ∷ ps) x ≡ drop (x - p.addr) p.bytes = rw (has_from x p (omega arith) inside) refl in
            absurd (omega (arith, ap length here, ap length none, length-drop (x - p.addr) p.bytes))
        | inr past ↦
            let no = has_not x p (inr past) in
            let on : rest_from ps x ≡ [] = rw no at none in
            get_or-append_right pad (p.bytes ++ later) n k 0 long begun
            ∙ get_or-append_right p.bytes later (length p.bytes) (k - n) 0 refl (omega arith)
            ∙ zero_shown (end_of p) ps (k - n - length p.bytes) x f.rest (omega arith) on
      ]
    ]
