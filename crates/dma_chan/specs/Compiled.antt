-- The compiled form of a transfer for a bus (profile; the instructions are the PL330 manual's).
use Rattle.std.specs.Prelude.{ℕ, zero, suc, ◌+◌, ◌-◌, ◌*◌, ◌/◌, ◌%◌, Bool, true, false, not, ◌&&◌, ◌==◌, nat_le, nat_lt, if◌then◌else◌, List, [], ◌∷◌, ◌++◌}
use Rattle.std.specs.Prelude.{map, length, Option, Some}
use Rattle.std.specs.{List.flat_map, Option.option_map_or}
use Rattle.dma_insn.specs.declared.insn.Reg.TheVariants.{Sar, Ccr, Dar}
use Rattle.dma_insn.specs.declared.chip.ChipInsn.TheVariants.{Mov, Ld, St, Rmb, Wmb, End, Sev, Wfe}
use Rattle.dma_insn.specs.{declared.control.BeatSize.BeatSize, declared.control.BurstEnd.BurstEnd, ControlWord.beat_bytes, ControlWord.bits_of}
use Rattle.dma_insn.specs.{declared.insn.Counter.TheVariants.Lc0, declared.insn.Counter.TheVariants.Lc1, declared.chip.ChipInsn.ChipInsn}
use Rattle.dma_mem.specs.{declared.segment.Segment.Segment, Places.Descriptor}
use Rattle.dma_chan.specs.Tree.{Tree, One, Then, Nothing, Repeat, in_order, bytes_of, unrolled}
use Rattle.dma_chan.specs.{declared.bus.Bus.Bus, declared.bus.Bus.TheVariants.Ideal, declared.pieces.Piece.Piece, Bus.widest_beat, Programs.ProgramValue}
use Rattle.dma_insn.specs.declared.control.BeatSize.TheVariants as sizes

-- ---- pieces

-- The pieces of n source bytes from address a, cut at the ends of the destinations, and the part of the destinations
-- that is left.
abbrev pub cut_one : ℕ → ℕ → List Segment → List Piece × List Segment
cut_one a n [] = ([], [])
cut_one a n (d ∷ ds) =
    if nat_lt n d.len then
    (record { src = a; dst = d.addr; len = n; fill = false } ∷ [], record { addr = d.addr + n; len = d.len - n } ∷ ds)
    else (
    if nat_lt d.len n then (
    let rest = cut_one (a + d.len) (n - d.len) ds in
    (record { src = a; dst = d.addr; len = d.len; fill = false } ∷ rest.0, rest.1))
    else (record { src = a; dst = d.addr; len = n; fill = false } ∷ [], ds))

-- The pieces of two lists with equally many bytes, cut at every end of a segment of either list.
abbrev pub pieces : List Segment → List Segment → List Piece
pieces [] ds = []
pieces (s ∷ ss) ds = let cut = cut_one s.addr s.len ds in cut.0 ++ pieces ss cut.1

-- The piece of a destination segment that is filled with the byte at address a.
abbrev pub fill_piece : ℕ → Segment → Piece
fill_piece a d = record { src = a; dst = d.addr; len = d.len; fill = true }

-- For each source segment, one piece for each destination segment. A fill has one source segment.
abbrev pub fill_pieces : List Segment → List Segment → List Piece
fill_pieces src dst = flat_map (λ s. map (fill_piece s.addr) dst) src

-- The pieces of a transfer: its bytes cut at every segment end of either list, so that each piece is contiguous at both
-- ends, or in a fill one piece for each destination segment (profile).
abbrev pub pieces_of : Descriptor → List Piece
pieces_of t = if t.fill then fill_pieces t.src t.dst else pieces t.src t.dst

-- ---- their code

-- whether beats of b bytes fit a bus and a piece: b is no wider than the bus, divides both addresses and is at most the
-- piece's length
abbrev pub beats_fit : Bus → ℕ → Piece → Bool
beats_fit bus b p = nat_le b (widest_beat bus) && p.src % b == 0 && p.dst % b == 0 && nat_le b p.len

-- the size of a piece's beats on a bus: the largest of 16, 8, 4, 2 and 1 bytes that fits, and in a fill 1
unfoldable pub beat_of : Bus → Piece → BeatSize
beat_of bus p =
    if p.fill then sizes.One else (
    if beats_fit bus 16 p then sizes.Sixteen else (
    if beats_fit bus 8 p then sizes.Eight else (
    if beats_fit bus 4 p then sizes.Four else (if beats_fit bus 2 p then sizes.Two else sizes.One))))

-- one end of bursts of k beats of this size, whose address increments or not
abbrev pub burst_end : Bool → BeatSize → ℕ → BurstEnd
burst_end increments size k = record { increments = increments; size = size; beats = k; protection = 0; cache = 0 }

-- The control word of bursts of k beats of this size at both ends. Both addresses increment, or in a fill the
-- destination's alone.
abbrev pub control_word : Bool → BeatSize → ℕ → ℕ
control_word fill size k = bits_of (record { src = burst_end (not fill) size k; dst = burst_end true size k })

-- The instructions that read and write one burst, each followed by its barrier.
abbrev pub body : Tree
body = in_order (One Ld ∷ One Rmb ∷ One St ∷ One Wmb ∷ [])

-- the tree if the number isn't 0, else nothing
abbrev pub where_some : ℕ → Tree → Tree
where_some zero t = Nothing
where_some (suc n) t = t

-- q bursts: the full rounds of 256 as two nested loops, and the rest as one loop
abbrev pub bursts : ℕ → Tree
bursts q =
    in_order (
    where_some (q / 256) (Repeat Lc0 (q / 256) (Repeat Lc1 256 body))
    ∷ where_some (q % 256) (Repeat Lc1 (q % 256) body) ∷ [])

-- a tree after the DMAMOV that sets the control word
abbrev pub under : ℕ → Tree → Tree
under w t = Then (One (Mov Ccr w)) t

-- n bytes starting at the addresses in the registers: bursts of 16 beats of this size, then one burst of the remaining
-- full beats, then one burst of the remaining bytes, with beats of 1 byte
unfoldable pub parts : Bool → BeatSize → ℕ → Tree
parts fill size n =
    let b = beat_bytes size in
    let q = n / (16 * b) in
    let m = n % (16 * b) / b in
    let t = n % (16 * b) % b in
    in_order (
    where_some q (under (control_word fill size 16) (bursts q))
    ∷ where_some m (under (control_word fill size m) body)
    ∷ where_some t (under (control_word fill sizes.One t) body) ∷ [])

-- the code of a piece: it sets both addresses, and then moves the bytes with the beats of `beat_of`
abbrev pub piece_tree : Bus → Piece → Tree
piece_tree bus p = Then (One (Mov Sar p.src)) (Then (One (Mov Dar p.dst)) (parts p.fill (beat_of bus p) p.len))

-- the DMAWFE of an event, with the invalid flag clear, or nothing without an event
abbrev pub wait_tree : Option ℕ → Tree
wait_tree wait = option_map_or (λ e. One (Wfe e false)) wait Nothing

-- the DMASEV of an event, or nothing without an event
abbrev pub signal_tree : Option ℕ → Tree
signal_tree signal = option_map_or (λ e. One (Sev e)) signal Nothing

-- The code of a transfer for a bus: the wait, the pieces in order, the signal and the end.
abbrev pub tree_on : Bus → Descriptor → Tree
tree_on bus t =
    in_order (
    wait_tree t.wait
    ∷ in_order (map (piece_tree bus) (pieces_of t))
    ∷ signal_tree t.signal
    ∷ One End ∷ [])

-- the instructions that a transfer's program for a bus executes, in order
unfoldable pub members_on : Bus → Descriptor → List ChipInsn
members_on bus t = unrolled (tree_on bus t)

-- how many instructions a transfer's program for a bus executes
unfoldable pub cost_on : Bus → Descriptor → ℕ
cost_on bus t = length (members_on bus t)

-- The program of a transfer for a bus.
unfoldable pub compiled_on : Bus → Descriptor → ProgramValue
compiled_on bus t = record { bytes = bytes_of (tree_on bus t); cost = Some (cost_on bus t) }

-- ---- on the ideal bus, which is that of the engine's channels

-- the instructions that a transfer's program executes, in order
unfoldable pub members : Descriptor → List ChipInsn
unfolding members_on
members t = members_on Ideal t

-- how many instructions a transfer's program executes
unfoldable pub cost : Descriptor → ℕ
unfolding cost_on
cost t = cost_on Ideal t

-- The program of a transfer.
unfoldable pub compiled : Descriptor → ProgramValue
unfolding compiled_on
compiled t = compiled_on Ideal t

-- the most bytes of a compiled program: 58 for each of 127 pieces, and 5 for the wait, the signal and the end
abbrev pub most_compiled : ℕ
most_compiled = 7371
