-- The bytes of regions in the memory that they lend, and the program that a DMAGO reads there.
use Rattle.std.proofs.Common.{◌≡◌, ◌∙◌, ℕ, zero, suc, ◌+◌, ◌-◌, ◌<◌, ◌≤◌, Bool, true, false, ◌||◌, List, [], ◌∷◌, ◌++◌, drop, get_or, length, take, Some, ap, refl, sym, subst, arith, inl, inr, true≢false}
use Rattle.std.specs.Prelude.{slice_get}
use Rattle.std.specs.List.{list_any}
use Rattle.std.proofs.lemmas.Bool.{cases_Bool, cases_lt}
use Rattle.std.proofs.lemmas.List.{ext_get_or, get_or-append_right, get_or-drop, get_or-take, get_or_append_left, length-append, length-drop, length-replicate, length-take, length-take-le, take-append-drop}
use Rattle.dma_mem.specs.Regions.{Piece, bytes_above, end_of, has, image_of, piece_of, pieces_of, rises_from, run_from}
use Rattle.dma_mem.specs.declared.regions.Region.{Region}
use Rattle.dma_mem.proofs.Pieces.{first, has_not, has_parts}
use Rattle.dma_device.specs.Device.{program_at}
use Rattle.dma_device.specs.Dmago.{HasProgram, ImageHasBytes}

-- ---- a piece's bytes in the image

-- the image from the first piece on, behind the gap before it
after_gap : (at : ℕ) (p : Piece) (ps : List Piece) (k : ℕ) → rises_from at (p ∷ ps) ≡ true → p.addr ≤ k
    → get_or (bytes_above at (p ∷ ps)) (k - at) 0 ≡ get_or (p.bytes ++ bytes_above (end_of p) ps) (k - p.addr) 0
after_gap at p ps k rises from = grind (arith, first, get_or-append_right, length-replicate)

in_first : (at : ℕ) (p : Piece) (ps : List Piece) (k : ℕ) → rises_from at (p ∷ ps) ≡ true → p.addr ≤ k → k < end_of p
    → get_or (bytes_above at (p ∷ ps)) (k - at) 0 ≡ get_or p.bytes (k - p.addr) 0
in_first at p ps k rises from to = after_gap at p ps k rises from ∙ get_or_append_left p.bytes (bytes_above (end_of p) ps) 0 (k - p.addr) (omega arith)

pub in_later : (at : ℕ) (p : Piece) (ps : List Piece) (k : ℕ) → rises_from at (p ∷ ps) ≡ true → end_of p ≤ k
    → get_or (bytes_above at (p ∷ ps)) (k - at) 0 ≡ get_or (bytes_above (end_of p) ps) (k - end_of p) 0
in_later at p ps k rises past = grind (arith, after_gap, get_or-append_right)

-- pieces that rise from an address begin there or later
low_at : (at : ℕ) (rs : List Region) (i : ℕ) (r : Region) → rises_from at (pieces_of rs) ≡ true → slice_get rs i ≡ Some r → at ≤ r.addr
low_at at [] i r rises is = absurd (cc)
low_at at (q ∷ rs) zero r rises is = grind arith
low_at at (q ∷ rs) (suc i) r rises is =
    let f = first at (piece_of q) (pieces_of rs) rises in
    omega (arith, f.after, low_at (end_of (piece_of q)) rs i r f.rest is)

bytes_at : (at : ℕ) (rs : List Region) (i k : ℕ) (r : Region) → rises_from at (pieces_of rs) ≡ true → slice_get rs i ≡ Some r → k < length r.bytes.now
    → get_or (bytes_above at (pieces_of rs)) (r.addr + k - at) 0 ≡ get_or r.bytes.now k 0
bytes_at at [] i k r rises is less = absurd (cc)
bytes_at at (q ∷ rs) zero k r rises is less =
    let same : q ≡ r = cc in
    let back : r.addr + k - r.addr ≡ k = omega arith in
    let there : rises_from at (piece_of r ∷ pieces_of rs) ≡ true = subst (λ (s : Region). rises_from at (piece_of s ∷ pieces_of rs) ≡ true) same rises in
    ap (λ (s : Region). get_or (bytes_above at (piece_of s ∷ pieces_of rs)) (r.addr + k - at) 0) same
    ∙ in_first at (piece_of r) (pieces_of rs) (r.addr + k) there (omega arith) (omega (arith, less))
    ∙ ap (λ (j : ℕ). get_or r.bytes.now j 0) back
bytes_at at (q ∷ rs) (suc i) k r rises is less =
    let f = first at (piece_of q) (pieces_of rs) rises in
    in_later at (piece_of q) (pieces_of rs) (r.addr + k) rises (omega (arith, low_at (end_of (piece_of q)) rs i r f.rest is))
    ∙ bytes_at (end_of (piece_of q)) rs i k r f.rest is less

pub image_has_bytes : ImageHasBytes
image_has_bytes regions i k r order is less =
    let back : r.addr + k - 0 ≡ r.addr + k = omega arith in
    ap (λ (j : ℕ). get_or (bytes_above 0 (pieces_of regions)) j 0) (sym back) ∙ bytes_at 0 regions i k r order is less

-- ---- the bytes from an address on

-- what lies in one of the pieces and not in the first lies in a later one
later_has : (p : Piece) (ps : List Piece) (a : ℕ) → has a p ≡ false → list_any (has a) (p ∷ ps) ≡ true → list_any (has a) ps ≡ true
later_has p ps a here lies = ap (λ (b : Bool). b || list_any (has a) ps) (sym here) ∙ lies

-- what lies in pieces that rise from an address isn't below it
low_has : (at : ℕ) (ps : List Piece) (a : ℕ) → rises_from at ps ≡ true → list_any (has a) ps ≡ true → at ≤ a
low_has at [] a rises lies = absurd (true≢false (sym lies))
low_has at (p ∷ ps) a rises lies =
    let f = first at p ps rises in
    elim (cases_Bool (has a p)) [
      | inl here ↦ omega (arith, f.after, (has_parts a p here).0)
      | inr other ↦ omega (arith, f.after, low_has (end_of p) ps a f.rest (later_has p ps a other lies))
    ]

run_here : (p : Piece) (ps : List Piece) (a : ℕ) → has a p ≡ true → run_from (p ∷ ps) a ≡ drop (a - p.addr) p.bytes ++ run_from ps (end_of p)
run_here p ps a here = rw here refl

run_later : (p : Piece) (ps : List Piece) (a : ℕ) → has a p ≡ false → run_from (p ∷ ps) a ≡ run_from ps a
run_later p ps a here = rw here refl

-- a run from an address isn't below where the pieces begin
low_run : (at : ℕ) (ps : List Piece) (a : ℕ) → rises_from at ps ≡ true → 0 < length (run_from ps a) → at ≤ a
low_run at [] a rises some = absurd (omega (arith, some))
low_run at (p ∷ ps) a rises some =
    let f = first at p ps rises in
    elim (cases_Bool (has a p)) [
      | inl here ↦ omega (arith, f.after, (has_parts a p here).0)
      | inr other ↦ omega (arith, f.after, low_run (end_of p) ps a f.rest (subst (λ (xs : List ℕ). 0 < length xs) (run_later p ps a other) some))
    ]

-- it has as many bytes as addresses in a row that lie in the pieces
long_run : (at : ℕ) (ps : List Piece) (a n : ℕ) → rises_from at ps ≡ true → ((k : ℕ) → k < n → list_any (has (a + k)) ps ≡ true) → n ≤ length (run_from ps a)
long_run at [] a n rises lie = elim (cases_lt 0 n) [
  | inl some ↦ absurd (true≢false (sym (lie 0 some)))
  | inr none ↦ omega (arith, none)
]
long_run at (p ∷ ps) a n rises lie =
    let f = first at p ps rises in
    elim (cases_lt 0 n) [
      | inr none ↦ omega (arith, none)
      | inl some ↦ elim (cases_Bool (has a p)) [
        | inl here ↦
            let w = has_parts a p here in
            let m = end_of p - a in
            let later = long_run (end_of p) ps (end_of p) (n - m) f.rest (λ k less.
            let there : a + (m + k) ≡ end_of p + k = omega (arith, w.1) in
            later_has p ps (end_of p + k) (has_not (end_of p + k) p (inr (omega arith)))
            (subst (λ (j : ℕ). list_any (has j) (p ∷ ps) ≡ true) there (lie (m + k) (omega (arith, less))))) in
            let joined = length-append (drop (a - p.addr) p.bytes) (run_from ps (end_of p)) in
            omega (arith, later, w.0, w.1, ap length (run_here p ps a here), joined, length-drop (a - p.addr) p.bytes)
        | inr other ↦
            let same : a + 0 ≡ a = omega arith in
            let past = low_has (end_of p) ps a f.rest (later_has p ps a other (subst (λ (j : ℕ). list_any (has j) (p ∷ ps) ≡ true) same (lie 0 some))) in
            let later = long_run (end_of p) ps a n f.rest (λ k less. later_has p ps (a + k) (has_not (a + k) p (inr (omega (arith, past)))) (lie k less)) in
            omega (arith, later, ap length (run_later p ps a other))
      ]
    ]

-- it has the image's bytes
run_shown : (at : ℕ) (ps : List Piece) (a k : ℕ) → rises_from at ps ≡ true → k < length (run_from ps a)
    → get_or (run_from ps a) k 0 ≡ get_or (bytes_above at ps) (a + k - at) 0
run_shown at [] a k rises less = absurd (omega (arith, less))
run_shown at (p ∷ ps) a k rises less =
    let f = first at p ps rises in
    elim (cases_Bool (has a p)) [
      | inl here ↦
          let w = has_parts a p here in
          let part = drop (a - p.addr) p.bytes in
          let later = run_from ps (end_of p) in
          let m = end_of p - a in
          let long : length part ≡ m = omega (arith, w.0, w.1, length-drop (a - p.addr) p.bytes) in
          let run = run_here p ps a here in
          ap (λ (xs : List ℕ). get_or xs k 0) run
          ∙ elim (cases_lt k m) [
            | inl inside ↦
                let same : (a - p.addr) + k ≡ a + k - p.addr = omega (arith, w.0) in
                get_or_append_left part later 0 k (omega (arith, long, inside))
                ∙ get_or-drop (a - p.addr) p.bytes k 0
                ∙ ap (λ (i : ℕ). get_or p.bytes i 0) same
                ∙ sym (in_first at p ps (a + k) rises (omega (arith, w.0)) (omega (arith, inside)))
            | inr past ↦
                let fits : k - m < length later = omega (arith, less, past, long, ap length run, length-append part later) in
                let same : end_of p + (k - m) ≡ a + k = omega (arith, past, w.1) in
                get_or-append_right part later m k 0 long past
                ∙ run_shown (end_of p) ps (end_of p) (k - m) f.rest fits
                ∙ ap (λ (i : ℕ). get_or (bytes_above (end_of p) ps) (i - end_of p) 0) same
                ∙ sym (in_later at p ps (a + k) rises (omega (arith, past, w.1)))
          ]
      | inr other ↦
          let run = run_later p ps a other in
          let fits = subst (λ (xs : List ℕ). k < length xs) run less in
          ap (λ (xs : List ℕ). get_or xs k 0) run
          ∙ run_shown (end_of p) ps a k f.rest fits
          ∙ sym (in_later at p ps (a + k) rises (omega (arith, low_run (end_of p) ps a f.rest (omega (arith, fits)))))
    ]

-- a DMAGO reads a program that is there
pub program_is_read : (ram : List Piece) (addr : ℕ) (program : List ℕ) → HasProgram ram addr program → (rest : List ℕ) × (program_at ram addr ≡ program ++ rest)
program_is_read ram addr program has_it =
    let n = length program in
    let run = run_from ram addr in
    let read = program_at ram addr in
    let long : n ≤ length run = long_run 0 ram addr n has_it.order has_it.lies in
    let enough : n ≤ length read = by_count run n long has_it.short in
    let same : take n read ≡ program = ext_get_or 0 (take n read) program (length-take-le n read enough) (λ k less.
    let inside : k < n = omega (arith, less, length-take-le n read enough) in
    get_or-take n read k 0 inside
    ∙ get_or-take 8192 run k 0 (omega (arith, inside, has_it.short))
    ∙ run_shown 0 ram addr k has_it.order (omega (arith, inside, long))
    ∙ ap (λ (j : ℕ). get_or (image_of ram) j 0) (omega arith)
    ∙ has_it.bytes k inside) in
    (drop n read, sym (take-append-drop n read) ∙ ap (λ (xs : List ℕ). xs ++ drop n read) same)
  where
    by_count : (run : List ℕ) (n : ℕ) → n ≤ length run → n ≤ 8192 → n ≤ length (take 8192 run)
    by_count run n long short = omega (arith, long, short, length-take 8192 run)
