-- RAM that is made at ranges.
use Rattle.std.proofs.Common.{◌≡◌, ℕ, ◌+◌, ◌<◌, List, [], ◌∷◌, ◌++◌, length, drop, take, map, replicate, get_or, ap, sym, ◌∙◌, arith, add-one}
use Rattle.std.proofs.{Math.Seq.take-suc, lemmas.List.drop-replicate, lemmas.List.map-append, lemmas.List.take-replicate, lemmas.List.Sums.sum_by-drop_more}
use Rattle.dma_mem.specs.{declared.regions.Region.Region, declared.segment.Segment.Segment, Refusals.total, Regions.Piece, Regions.piece_of, Regions.pieces_of}
use Rattle.dma_trace.specs.Found.{zero_piece}

-- what an index behind the end gives
abbrev pub no_range : Segment
no_range = record { addr = 0; len = 0 }

-- the bytes of one more range
total_more : (ranges : List Segment) (k : ℕ) → k < length ranges
    → total (drop k ranges) ≡ (get_or ranges k no_range).len + total (drop (k + 1) ranges)
total_more ranges k h = sum_by-drop_more (λ (s : Segment). s.len) ranges k no_range h

-- the bytes of the next range
pub front_zeros : (ranges : List Segment) (k : ℕ) (rest front : List ℕ) → k < length ranges → rest ≡ replicate (total (drop k ranges)) 0
    → front ≡ take (get_or ranges k no_range).len rest → front ≡ replicate (get_or ranges k no_range).len 0
front_zeros ranges k rest front h r f = grind (arith, get_or, ap, take, take-replicate, drop, arith, total_more)

-- the bytes of the ranges behind it
pub back_zeros : (ranges : List Segment) (k : ℕ) (rest back : List ℕ) → k < length ranges → rest ≡ replicate (total (drop k ranges)) 0
    → back ≡ drop (get_or ranges k no_range).len rest → back ≡ replicate (total (drop (k + 1) ranges)) 0
back_zeros ranges k rest back h r b = grind (arith, get_or, drop, arith, total_more, ap, drop-replicate, replicate)

-- one more region
pub one_more : (ranges : List Segment) (k : ℕ) (regions : List Region) (r : Region) → k < length ranges → pieces_of regions ≡ map zero_piece (take k ranges)
    → r.addr ≡ (get_or ranges k no_range).addr → r.bytes.now ≡ replicate (get_or ranges k no_range).len 0
    → pieces_of (regions ++ r ∷ []) ≡ map zero_piece (take (k + 1) ranges)
one_more ranges k regions r h made at zeros =
    let s = get_or ranges k no_range in
    let piece : piece_of r ≡ zero_piece s = grind (arith, ap) in
    map-append piece_of regions (r ∷ [])
    ∙ ap (λ (ps : List Piece). ps ++ piece_of r ∷ []) made
    ∙ ap (λ (p : Piece). map zero_piece (take k ranges) ++ p ∷ []) piece
    ∙ sym (map-append zero_piece (take k ranges) (s ∷ []))
    ∙ ap (map zero_piece) (sym (rw add-one (take-suc ranges k no_range h)))
