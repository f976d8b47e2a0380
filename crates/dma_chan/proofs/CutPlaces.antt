-- Two lists of segments, cut into pieces. The pieces have the places of both lists, in order, and there are fewer
-- pieces than segments.
use Rattle.std.proofs.Common.{◌≡◌, ℕ, zero, suc, ◌+◌, ◌-◌, ◌^◌, ◌≤◌, ◌<◌, Bool, true, false, ltb, List, [], ◌∷◌, ◌++◌, length, refl, sym, ap, ◌∙◌, arith}
use Rattle.std.proofs.Common.{append_assoc, append-nil, length-append, None}
use Rattle.std.specs.{List.AllByRecursion, List.flat_map, List.range_with_len, Prelude.replicate, Prelude.slice_get}
use Rattle.std.proofs.{lemmas.Bool.cond_both, lemmas.Bool.ltb-true, lemmas.Bool.ltb-false, lemmas.List.length-replicate, lemmas.List.replicate-append-replicate}
use Rattle.std.proofs.{lemmas.Grind.flat_map-append, lemmas.List.FromFn.length-range_with_len}
use Rattle.dma_mem.specs.{declared.segment.Segment.Segment, Places.places}
use Rattle.dma_chan.specs.{declared.pieces.Piece.Piece, Compiled.cut_one, Compiled.pieces, inner.Compiling.byte_count, inner.Compiling.IsRange}
use Rattle.dma_chan.specs.{inner.Cutting.pieces_left}

pub range_add : (a m n : ℕ) → range_with_len a (m + n) ≡ range_with_len a m ++ range_with_len (a + m) n
range_add a zero n = let e : zero + n ≡ n = omega arith in let f : a + 0 ≡ a = omega arith in rw (e, f) refl
range_add a (suc m) n =
    let e : suc m + n ≡ suc (m + n) = omega arith in
    let f : a + 1 + m ≡ a + suc m = omega arith in
    ap (range_with_len a) e ∙ ap (λ (xs : List ℕ). a ∷ xs) (range_add (a + 1) m n ∙ ap (λ (k : ℕ). range_with_len (a + 1) m ++ range_with_len k n) f)

-- how far a source address moves over n bytes, and the addresses that n bytes are read from: consecutive addresses, or
-- in a fill the first address n times
abbrev pub way : Bool → ℕ → ℕ
way false n = n
way true n = 0

abbrev pub run_of : Bool → ℕ → ℕ → List ℕ
run_of false a n = range_with_len a n
run_of true a n = replicate n a

pub way_zero : (fill : Bool) → way fill 0 ≡ 0
way_zero fill = grind (arith)

pub way_add : (fill : Bool) (m n : ℕ) → way fill (m + n) ≡ way fill m + way fill n
way_add fill m n = grind (arith)

pub length_run : (fill : Bool) (a n : ℕ) → length (run_of fill a n) ≡ n
length_run fill a n = grind (arith, length-range_with_len, length-replicate)

pub run_add : (fill : Bool) (a m n : ℕ) → run_of fill a (m + n) ≡ run_of fill a m ++ run_of fill (a + way fill m) n
run_add fill a m n = grind (arith, range_add, replicate-append-replicate)

-- the addresses that pieces read, and those that they write
abbrev pub read_by : List Piece → List ℕ
read_by ps = flat_map (λ (p : Piece). run_of p.fill p.src p.len) ps

abbrev pub written_by : List Piece → List ℕ
written_by ps = flat_map (λ (p : Piece). range_with_len p.dst p.len) ps

pub record IsPiece (p : Piece) : Type 0 where
  pub some : 0 < p.len
  pub below : p.len ≤ 2 ^ 20
  pub src : p.src < 2 ^ 32
  pub reads : p.src + way p.fill p.len ≤ 2 ^ 32
  pub dst : p.dst + p.len ≤ 2 ^ 32

-- what holds of all elements of two lists holds of both appended
pub all_append : {X : Type 0} (P : X → Type 0) (a b : List X) → AllByRecursion P a → AllByRecursion P b → AllByRecursion P (a ++ b)
all_append P [] b f g = g
all_append P (x ∷ a) b f g = (f.0, all_append P a b f.1 g)

-- the pieces of one source segment
record Cut (a n : ℕ) (ds : List Segment) (r : List Piece × List Segment) : Type 0 where
  sources : read_by r.0 ≡ range_with_len a n
  destinations : written_by r.0 ++ places r.1 ≡ places ds
  totals : n + byte_count r.1 ≡ byte_count ds
  fit : AllByRecursion IsPiece r.0
  rest : AllByRecursion IsRange r.1
  few : length r.0 + length r.1 ≤ length ds + 1
  last : byte_count r.1 ≡ 0 → length r.0 + length r.1 ≤ length ds

cut_right : (a n : ℕ) (ds : List Segment) → 0 < n → n ≤ 2 ^ 20 → a + n ≤ 2 ^ 32 → n ≤ byte_count ds → AllByRecursion IsRange ds → Cut a n ds (cut_one a n ds)
cut_right a n [] some below fits enough all = absurd (omega arith)
cut_right a n (d ∷ ds) some below fits enough all =
    cond_both (ltb n d.len) _ _ (Cut a n (d ∷ ds)) (λ t.
    let less : n < d.len = ltb-true n d.len t in
    let split : range_with_len d.addr d.len ≡ range_with_len d.addr n ++ range_with_len (d.addr + n) (d.len - n) = let e : d.len ≡ n + (d.len - n) =
    omega arith in ap (range_with_len d.addr) e ∙ range_add d.addr n (d.len - n) in
    record {
      sources = append-nil (range_with_len a n);
      destinations = ap (λ (xs : List ℕ). xs ++ (range_with_len (d.addr + n) (d.len - n) ++ places ds)) (append-nil (range_with_len d.addr n))
          ∙ sym (append_assoc _ _ (places ds)) ∙ ap (λ (xs : List ℕ). xs ++ places ds) (sym split);
      totals = omega arith;
      fit = (record { some = some; below = below; src = omega arith; reads = omega arith; dst = omega (arith, all.0.1) }, tt);
      rest = ((omega arith, omega (arith, all.0.1)), all.1);
      few = omega arith;
      last = λ z. absurd (omega arith);
    }) (λ t.
    let more : d.len ≤ n = ltb-false n d.len t in
    cond_both (ltb d.len n) _ _ (Cut a n (d ∷ ds)) (λ u.
    let less : d.len < n = ltb-true d.len n u in
    let r = cut_right (a + d.len) (n - d.len) ds (omega arith) (omega arith) (omega arith) (omega arith) all.1 in
    let split : range_with_len a n ≡ range_with_len a d.len ++ range_with_len (a + d.len) (n - d.len) = let e : n ≡ d.len + (n - d.len) = omega arith in
    ap (range_with_len a) e ∙ range_add a d.len (n - d.len) in
    record {
      sources = ap (λ (xs : List ℕ). range_with_len a d.len ++ xs) r.sources ∙ sym split;
      destinations = append_assoc (range_with_len d.addr d.len) _ _ ∙ ap (λ (xs : List ℕ). range_with_len d.addr d.len ++ xs) r.destinations;
      totals = omega (arith, r.totals);
      fit = (record { some = all.0.0; below = omega arith; src = omega arith; reads = omega arith; dst = all.0.1 }, r.fit);
      rest = r.rest;
      few = omega (arith, r.few);
      last = λ z. omega (arith, r.last z);
    }) (λ u.
    let same : n ≡ d.len = let le : n ≤ d.len = ltb-false d.len n u in omega arith in
    record {
      sources = append-nil (range_with_len a n);
      destinations = ap (λ (xs : List ℕ). xs ++ places ds) (append-nil (range_with_len d.addr n) ∙ ap (range_with_len d.addr) same);
      totals = omega arith;
      fit = (record { some = some; below = below; src = omega arith; reads = omega arith; dst = omega (arith, all.0.1) }, tt);
      rest = all.1;
      few = omega arith;
      last = λ z. omega arith;
    }))

-- the pieces of all source segments
pub record Pieces (ss ds : List Segment) (ps : List Piece) : Type 0 where
  pub sources : read_by ps ≡ places ss
  pub destinations : written_by ps ≡ places ds
  pub fit : AllByRecursion IsPiece ps
  pub few : length ps ≤ length ss + length ds
  pub fewer : 0 < length ss → length ps + 1 ≤ length ss + length ds

nothing_left : (ds : List Segment) → AllByRecursion IsRange ds → byte_count ds ≡ 0 → ds ≡ []
nothing_left [] all e = refl
nothing_left (d ∷ ds) all e = absurd (omega (arith, all.0.0))

-- after the last source segment no destination is left
none_left : (n : ℕ) (ss : List Segment) (rest : List Segment) (total : ℕ) → ss ≡ [] → n + byte_count ss ≡ total → n + byte_count rest ≡ total
    → byte_count rest ≡ 0
none_left n ss rest total none same totals = let e : byte_count ss ≡ 0 = ap byte_count none in omega arith

fewer_than : (ss : List Segment) (a b : List Piece) (rest : List Segment) (n : ℕ) → length (a ++ b) ≡ length a + length b → length a + length rest ≤ n + 1
    → (ss ≡ [] → length a + length rest ≤ n) → length b ≤ length ss + length rest → (0 < length ss → length b + 1 ≤ length ss + length rest)
    → length (a ++ b) + 1 ≤ suc (length ss) + n
fewer_than [] a b rest n all few last fits fewer = omega (arith, last refl)
fewer_than (s ∷ ss) a b rest n all few last fits fewer = omega (arith, fewer (omega arith))

pub pieces_right : (ss ds : List Segment) → AllByRecursion IsRange ss → AllByRecursion IsRange ds → byte_count ss ≡ byte_count ds → byte_count ss ≤ 2 ^ 20
    → Pieces ss ds (pieces ss ds)
pieces_right [] ds all rest same below = grind (arith, nothing_left)
pieces_right (s ∷ ss) ds all rest same below =
    let cut = cut_right s.addr s.len ds all.0.0 (omega arith) all.0.1 (omega arith) rest in
    let r = pieces_right ss (cut_one s.addr s.len ds).1 all.1 cut.rest (omega (arith, cut.totals)) (omega arith) in
    let a = (cut_one s.addr s.len ds).0 in
    let b = pieces ss (cut_one s.addr s.len ds).1 in
    let all_of : length (a ++ b) ≡ length a + length b = length-append a b in
    let fewer : length (a ++ b) + 1 ≤ length (s ∷ ss) + length ds =
    fewer_than ss a b (cut_one s.addr s.len ds).1 (length ds) all_of cut.few
    (λ (z : ss ≡ []). cut.last (ap byte_count (nothing_left _ cut.rest (none_left s.len ss _ (byte_count ds) z same cut.totals)))) r.few r.fewer in
    record {
      sources = flat_map-append (λ (p : Piece). run_of p.fill p.src p.len) a b ∙ ap (λ (xs : List ℕ). xs ++ read_by b) cut.sources
          ∙ ap (λ (xs : List ℕ). range_with_len s.addr s.len ++ xs) r.sources;
      destinations = flat_map-append (λ (p : Piece). range_with_len p.dst p.len) a b ∙ ap (λ (xs : List ℕ). written_by a ++ xs) r.destinations
          ∙ cut.destinations;
      fit = all_append IsPiece a b cut.fit r.fit;
      few = omega arith;
      fewer = λ z. fewer;
    }

-- ---- what is left of two lists, where nothing is left of one

-- no piece is left
pieces_none : (ss : List Segment) → pieces ss [] ≡ []
pieces_none [] = refl
pieces_none (s ∷ ss) = pieces_none ss

pub none_to_read : (fill : Bool) (ss ds : List Segment) → slice_get ss 0 ≡ None → pieces_left fill ss ds ≡ []
none_to_read true [] ds h = refl
none_to_read false [] ds h = refl
none_to_read fill (s ∷ ss) ds h = absurd cc

pub none_to_write : (fill : Bool) (ss ds : List Segment) → slice_get ds 0 ≡ None → pieces_left fill ss ds ≡ []
none_to_write true [] [] h = refl
none_to_write true (s ∷ ss) [] h = refl
none_to_write false ss [] h = pieces_none ss
none_to_write fill ss (d ∷ ds) h = absurd cc
