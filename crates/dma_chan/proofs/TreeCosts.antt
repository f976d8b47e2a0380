-- How many instructions running a tree executes, counted without writing them out, and a bound for a transfer's.
use Rattle.std.proofs.Common.{◌≡◌, ℕ, zero, suc, ◌+◌, ◌*◌, ◌/◌, ◌%◌, ◌≤◌, List, [], ◌∷◌, length, map, Bool, Option, refl, ap, ◌∙◌, arith}
use Rattle.std.proofs.Common.{length-append}
use Rattle.std.proofs.Math.Nat.{div-mul-le_self}
use Rattle.dma_insn.specs.{declared.chip.ChipInsn.ChipInsn}
use Rattle.dma_insn.specs.{declared.control.BeatSize.BeatSize, ControlWord.beat_bytes}
use Rattle.dma_insn.specs.declared.control.BeatSize.TheVariants as sizes
use Rattle.dma_mem.specs.Places.{Descriptor}
use Rattle.dma_chan.specs.Compiled.{members_on, cost, cost_on, tree_on, piece_tree, parts, where_some, bursts, beat_of, body, control_word, under}
use Rattle.dma_chan.specs.Compiled.{wait_tree, signal_tree}
use Rattle.dma_chan.specs.Tree.{Tree, One, Then, Nothing, Repeat, unrolled, times, in_order}
use Rattle.dma_chan.specs.Layer.{CostIs, CostOnBus}
use Rattle.dma_chan.specs.{declared.bus.Bus.Bus, declared.bus.Bus.TheVariants.Ideal, declared.pieces.Piece.Piece, inner.Compiling.cost_of}
use Rattle.dma_chan.proofs.{CutPlaces.read_by, CutPlaces.run_of, CutPlaces.length_run, PieceCode.cut_well, PieceCode.pieces_few, ControlWords.beat_right}

-- the number by the tree alone
abbrev pub counted : Tree → ℕ
counted (One i) = 1
counted (Then a b) = counted a + counted b
counted Nothing = 0
counted (Repeat c n t) = 1 + n * (counted t + 1)

length_times : (n : ℕ) (is : List ChipInsn) → length (times n is) ≡ n * length is
length_times zero is = omega arith
length_times (suc n) is = length-append is (times n is) ∙ ap (λ (k : ℕ). length is + k) (length_times n is) ∙ omega arith

length_unrolled : (t : Tree) → length (unrolled t) ≡ counted t
length_unrolled (One i) = refl
length_unrolled (Then a b) = length-append (unrolled a) (unrolled b) ∙ omega (arith, length_unrolled a, length_unrolled b)
length_unrolled Nothing = refl
length_unrolled (Repeat c n t) = grind (arith, length-append, length_times, length_unrolled t)

pub cost_counted : (t : Tree) → cost_of t ≡ counted t
unfolding cost_of
cost_counted t = length_unrolled t

-- a piece sets two addresses before its bursts
pub piece_counts : (bus : Bus) (p : Piece) → cost_of (piece_tree bus p) ≡ 2 + cost_of (parts p.fill (beat_of bus p) p.len)
unfolding cost_of
piece_counts bus p = omega arith

pub cost_of_tree : (bus : Bus) (t : Descriptor) → cost_on bus t ≡ counted (tree_on bus t)
unfolding cost_on members_on
cost_of_tree bus t = length_unrolled (tree_on bus t)

-- ---- the bound

some_counted : (n k : ℕ) (t : Tree) → counted t ≤ k → counted (where_some n t) ≤ k
some_counted n k t h = grind (arith)

bursts_counted : (q : ℕ) → counted (bursts q) ≤ 2 + 6 * q
bursts_counted q = grind (arith, some_counted)

-- q bursts of 16 beats, each of at least one byte
bursts_below : (q b : ℕ) → 1 ≤ b → 16 * q ≤ q * (16 * b)
bursts_below q b h = grind (arith)

parts_counted : (fill : Bool) (size : BeatSize) (n : ℕ) → 1 ≤ beat_bytes size → 16 * counted (parts fill size n) ≤ 208 + 6 * n
unfolding parts
parts_counted fill size n low =
    let b = beat_bytes size in
    let q = n / (16 * b) in
    let m = n % (16 * b) / b in
    let t = n % (16 * b) % b in
    let rounds = some_counted q (3 + 6 * q) (under (control_word fill size 16) (bursts q)) (omega (arith, bursts_counted q)) in
    let beats = some_counted m 5 (under (control_word fill size m) body) (omega arith) in
    let bytes = some_counted t 5 (under (control_word fill sizes.One t) body) (omega arith) in
    omega (arith, rounds, beats, bytes, bursts_below q b low, div-mul-le_self n (16 * b))

piece_counted : (bus : Bus) (p : Piece) → 16 * counted (piece_tree bus p) ≤ 240 + 6 * p.len
piece_counted bus p = let all = parts_counted p.fill (beat_of bus p) p.len (beat_right bus p).low in omega (arith, all)

pieces_counted : (bus : Bus) (ps : List Piece) → 16 * counted (in_order (map (piece_tree bus) ps)) ≤ 240 * length ps + 6 * length (read_by ps)
pieces_counted bus [] = omega arith
pieces_counted bus (p ∷ ps) =
    let one = piece_counted bus p in
    let more = pieces_counted bus ps in
    let bytes : length (read_by (p ∷ ps)) ≡ p.len + length (read_by ps) = length-append (run_of p.fill p.src p.len) (read_by ps)
    ∙ omega (arith, length_run p.fill p.src p.len) in
    omega (arith, one, more, bytes)

event_counted : (o : Option ℕ) → (counted (wait_tree o) ≤ 1) × (counted (signal_tree o) ≤ 1)
event_counted o = grind (arith)

pub cost_below : CostOnBus
cost_below bus t h = grind (arith, cut_well, event_counted, pieces_counted, pieces_few, cost_of_tree)

pub cost_is : CostIs
unfolding cost
cost_is t h = cost_below Ideal t h

pub some_on : (bus : Bus) (t : Descriptor) → 1 ≤ cost_on bus t
some_on bus t = omega (arith, cost_of_tree bus t)

pub cost_some : (t : Descriptor) → 1 ≤ cost t
unfolding cost
cost_some t = some_on Ideal t
