-- The code of pieces, one after the other: its bytes and its cost.
use Rattle.std.proofs.Common.{◌≡◌, ℕ, zero, suc, ◌+◌, ◌*◌, ◌/◌, ◌%◌, ◌^◌, ◌<◌, ◌≤◌, List, [], ◌∷◌, ◌++◌, length, refl, sym, ap, ◌∙◌, arith, map, append_assoc}
use Rattle.std.proofs.Common.{append-nil, length-append, Option, Bool, true, false, subst}
use Rattle.std.specs.{Prelude.replicate, Prelude.if◌then◌else◌, List.AllByRecursion, List.All, List.range_with_len, List.flat_map}
use Rattle.std.proofs.lemmas.List.Elements.{All-head, All-tail}
use Rattle.std.proofs.{lemmas.List.length-map, lemmas.List.Folds.flat_map-map, lemmas.List.FromFn.length-range_with_len}
use Rattle.dma_mem.specs.Places.{Descriptor, places, sources, destinations}
use Rattle.dma_mem.specs.{declared.segment.Segment.Segment, Rules.IsTransfer, Rules.IsSegmentList}
use Rattle.dma_insn.specs.{declared.control.BeatSize.BeatSize}
use Rattle.dma_chan.specs.Compiled.{pieces, fill_piece, fill_pieces, pieces_of, piece_tree, beat_of, parts, where_some, bursts}
use Rattle.dma_chan.specs.Compiled.{wait_tree, signal_tree, tree_on}
use Rattle.dma_chan.specs.Tree.{Tree, bytes_of, in_order, Nothing}
use Rattle.dma_chan.specs.{declared.bus.Bus.Bus, declared.pieces.Piece.Piece, inner.Compiling.byte_count, inner.Compiling.IsRange}
use Rattle.dma_chan.proofs.CutPlaces.{IsPiece, pieces_right, read_by, written_by}

-- what is left to spell, after one more piece
pub piece_more : (bus : Bus) (p : Piece) (ps more : List Piece) (old now new : List ℕ) → ps ≡ p ∷ more → new ≡ now ++ bytes_of (piece_tree bus p)
    → now ++ bytes_of (in_order (map (piece_tree bus) ps)) ≡ old → new ++ bytes_of (in_order (map (piece_tree bus) more)) ≡ old
piece_more bus p ps more old now new is e inv = grind (arith, append_assoc)

-- ---- what holds of a transfer's lists

ranges : (list : List Segment) → All (λ (s : Segment). 0 < s.len) list → All (λ (s : Segment). s.addr + s.len ≤ 4294967296) list → AllByRecursion IsRange list
ranges [] f g = tt
ranges (s ∷ ss) f g = (
  (All-head (λ (x : Segment). 0 < x.len) s ss f, All-head (λ (x : Segment). x.addr + x.len ≤ 4294967296) s ss g),
  ranges ss
      (All-tail (λ (x : Segment). 0 < x.len) s ss f) (All-tail (λ (x : Segment). x.addr + x.len ≤ 4294967296) s ss g),
)

pub are_ranges : (list : List Segment) → IsSegmentList list → AllByRecursion IsRange list
are_ranges list h = ranges list h.filled h.within

pub byte_count_places : (list : List Segment) → length (places list) ≡ byte_count list
byte_count_places [] = refl
byte_count_places (s ∷ ss) = length-append (range_with_len s.addr s.len) (places ss) ∙ omega (arith, length-range_with_len s.addr s.len, byte_count_places ss)

same_count_by : (fill : Bool) (src dst : List Segment) → fill ≡ false
    → length (if fill then flat_map (λ (d : ℕ). places src) (places dst) else places src) ≡ length (places dst) → byte_count src ≡ byte_count dst
same_count_by fill src dst h h2 = grind (arith, byte_count_places)

-- what holds of a transfer's pieces
pub record IsCut (src dst : List ℕ) (ps : List Piece) : Type 0 where
  pub sources : read_by ps ≡ src
  pub destinations : written_by ps ≡ dst
  pub fit : AllByRecursion IsPiece ps
  pub few : length ps ≤ 127

-- one place again, for each place of a list
again_places : (a : ℕ) (s n : ℕ) (rest : List ℕ)
    → flat_map (λ (d : ℕ). a ∷ []) (range_with_len s n ++ rest) ≡ replicate n a ++ flat_map (λ (d : ℕ). a ∷ []) rest
again_places a s zero rest = refl
again_places a s (suc n) rest = ap (λ (xs : List ℕ). a ∷ xs) (again_places a (s + 1) n rest)

fill_reads : (a : ℕ) (ds : List Segment) → read_by (map (fill_piece a) ds) ≡ flat_map (λ (d : ℕ). a ∷ []) (places ds)
fill_reads a [] = refl
fill_reads a (d ∷ ds) = ap (λ (xs : List ℕ). replicate d.len a ++ xs) (fill_reads a ds) ∙ sym (again_places a d.addr d.len (places ds))

fill_fits : (a : ℕ) (ds : List Segment) → a < 2 ^ 32 → byte_count ds ≤ 2 ^ 20 → AllByRecursion IsRange ds → AllByRecursion IsPiece (map (fill_piece a) ds)
fill_fits a [] low few all = tt
fill_fits a (d ∷ ds) low few all = grind (arith, fill_fits a ds low (omega arith) all.1)

-- the pieces of a fill's one place
pub fill_pieces_one : (a : ℕ) (src dst : List Segment) → src ≡ record { addr = a; len = 1 } ∷ [] → map (fill_piece a) dst ≡ fill_pieces src dst
fill_pieces_one a src dst is = rw is (sym (append-nil (map (fill_piece a) dst)))

cut_by : (fill : Bool) (src dst : List Segment) → (fill ≡ true → (a : ℕ) × (src ≡ record { addr = a; len = 1 } ∷ [])) → IsSegmentList src → IsSegmentList dst
    → (fill ≡ false → byte_count src ≡ byte_count dst) → byte_count dst ≤ 2 ^ 20
    → IsCut (if fill then flat_map (λ (d : ℕ). places src) (places dst) else places src) (places dst) (if fill then fill_pieces src dst else pieces src dst)
cut_by false src dst one ss ds same low =
    let all = pieces_right src dst (are_ranges src ss) (are_ranges dst ds) (same refl) (omega (arith, same refl)) in
    record { sources = all.sources; destinations = all.destinations; fit = all.fit; few = omega (arith, ss.few, ds.few, all.fewer ss.some) }
cut_by true src dst one ss ds same low =
    let w = one refl in
    let a = w.0 in
    let range : AllByRecursion IsRange (record { addr = a; len = 1 } ∷ []) =
    subst (λ (list : List Segment). AllByRecursion IsRange list) w.1 (are_ranges src ss) in
    rw (← fill_pieces_one a src dst w.1) (
    rw w.1 (record {
      sources = fill_reads a dst;
      destinations = flat_map-map (λ (p : Piece). range_with_len p.dst p.len) (fill_piece a) dst;
      fit =
          fill_fits a dst (omega (arith, range.0.1)) low (are_ranges dst ds);
      few = omega (arith, ds.few, length-map dst (fill_piece a));
    }))

pub cut_well : (t : Descriptor) → IsTransfer t → IsCut (sources t) (destinations t) (pieces_of t)
cut_well t h =
    cut_by t.fill t.src t.dst h.one_byte h.source_list h.destination_list (λ e. same_count_by t.fill t.src t.dst e h.same_length)
    (omega (arith, h.short, byte_count_places t.dst))

pub all_small : (ps : List Piece) → AllByRecursion IsPiece ps → AllByRecursion (λ p. p.len ≤ 2 ^ 20) ps
all_small [] h = tt
all_small (p ∷ ps) h = (h.0.below, all_small ps h.1)

-- two lists of at most 64 segments have at most 127 pieces, and a fill one for each destination
pub pieces_few : (t : Descriptor) → IsTransfer t → length (pieces_of t) ≤ 127
pieces_few t h = (cut_well t h).few

fewer_by : (fill : Bool) (src dst : List Segment) → (fill ≡ true → (a : ℕ) × (src ≡ record { addr = a; len = 1 } ∷ [])) → IsSegmentList src → IsSegmentList dst
    → (fill ≡ false → byte_count src ≡ byte_count dst) → byte_count dst ≤ 2 ^ 20
    → length (if fill then fill_pieces src dst else pieces src dst) ≤ length src + length dst
fewer_by false src dst one ss ds same low = let all = pieces_right src dst (are_ranges src ss) (are_ranges dst ds) (same refl) (omega (arith, same refl)) in
    omega (arith, all.fewer ss.some)
fewer_by true src dst one ss ds same low = grind (arith, fill_pieces_one, length-map)

-- no more pieces than segments
pub pieces_fewer : (t : Descriptor) → IsTransfer t → length (pieces_of t) ≤ length t.src + length t.dst
pieces_fewer t h = grind (arith, fewer_by, same_count_by, byte_count_places)

-- ---- how long the code is

some_bytes : (n k : ℕ) (t : Tree) → length (bytes_of t) ≤ k → length (bytes_of (where_some n t)) ≤ k
some_bytes n k t h = grind (arith)

two_bytes : (a b : List ℕ) (i j : ℕ) → length a ≤ i → length b ≤ j → length (a ++ (b ++ [])) ≤ i + j
two_bytes a b i j f g = omega (arith, length-append a (b ++ []), length-append b [])

three_bytes : (a b c : List ℕ) (i j k : ℕ) → length a ≤ i → length b ≤ j → length c ≤ k → length (a ++ (b ++ (c ++ []))) ≤ i + j + k
three_bytes a b c i j k f g h = omega (arith, length-append a (b ++ (c ++ [])), length-append b (c ++ []), length-append c [])

four_bytes : (a b c : List ℕ) (i j k : ℕ) → length a ≤ i → length b ≤ j → length c ≤ k → length (a ++ (b ++ (c ++ (0 ∷ [] ++ [])))) ≤ i + j + k + 1
four_bytes a b c i j k f g h = omega (arith, length-append a (b ++ (c ++ (0 ∷ []))), length-append b (c ++ (0 ∷ [])), length-append c (0 ∷ []))

bursts_bytes : (q : ℕ) → length (bytes_of (bursts q)) ≤ 20
bursts_bytes q = two_bytes _ _ 12 8 (some_bytes (q / 256) 12 _ (omega arith)) (some_bytes (q % 256) 8 _ (omega arith))

parts_bytes : (fill : Bool) (size : BeatSize) (n : ℕ) → length (bytes_of (parts fill size n)) ≤ 46
unfolding parts
parts_bytes fill size n = grind (arith, three_bytes, some_bytes, bursts_bytes)

piece_bytes : (bus : Bus) (p : Piece) → length (bytes_of (piece_tree bus p)) ≤ 58
piece_bytes bus p = omega (arith, parts_bytes p.fill (beat_of bus p) p.len)

pub pieces_bytes : (bus : Bus) (ps : List Piece) → length (bytes_of (in_order (map (piece_tree bus) ps))) ≤ 58 * length ps
pieces_bytes bus [] = omega arith
pieces_bytes bus (p ∷ ps) = grind (arith, length-append, piece_bytes, pieces_bytes bus ps)

wait_bytes : (o : Option ℕ) → length (bytes_of (wait_tree o)) ≤ 2
wait_bytes o = grind (arith)

signal_bytes : (o : Option ℕ) → length (bytes_of (signal_tree o)) ≤ 2
signal_bytes o = grind (arith)

-- the program of a transfer has at most 7,371 bytes
pub compiled_bytes : (bus : Bus) (t : Descriptor) → IsTransfer t → length (bytes_of (tree_on bus t)) ≤ 7371
compiled_bytes bus t h = grind (arith, four_bytes, wait_bytes, pieces_bytes, signal_bytes, pieces_few)

-- ---- a part that is present if its number isn't 0

pub where_some_there : (n : ℕ) (t : Tree) → 0 < n → where_some n t ≡ t
where_some_there n t h = grind (arith)

pub where_some_none : (n : ℕ) (t : Tree) → n ≡ 0 → where_some n t ≡ Nothing
where_some_none n t h = grind (arith)

-- three lists appended, one after the other
pub appended : (old a b c one two new : List ℕ) → one ≡ old ++ a → two ≡ one ++ b → new ≡ two ++ c → new ≡ old ++ (a ++ (b ++ c))
appended old a b c one two new e f g = grind (arith, append_assoc)
