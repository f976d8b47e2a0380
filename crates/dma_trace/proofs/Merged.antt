-- Ranges that are joined where they meet.
use Rattle.std.proofs.Common.{◌≡◌, ℕ, ◌+◌, ◌≤◌, true, List, [], ◌∷◌, ◌++◌, map, ap, sym, refl, subst, arith}
use Rattle.std.proofs.{lemmas.Bool.le-leb, lemmas.List.length-replicate}
use Rattle.dma_mem.proofs.Pieces.{first}
use Rattle.dma_mem.specs.Regions.{Piece, end_of, in_order, largest_end, rises_from}
use Rattle.dma_mem.specs.{declared.segment.Segment.Segment, Places.end_of_addresses}
use Rattle.dma_trace.specs.Found.{zero_piece}

-- ---- the order

abbrev end : Segment → ℕ
end s = s.addr + s.len

piece_end : (s : Segment) → end_of (zero_piece s) ≡ end s
piece_end s = ap (λ (n : ℕ). s.addr + n) (length-replicate s.len 0)

-- one range rises
pub rises_one : (at : ℕ) (s : Segment) → at ≤ s.addr → end s ≤ largest_end → rises_from at (zero_piece s ∷ []) ≡ true
rises_one at s low high = rw (le-leb at s.addr low, piece_end s, le-leb (end s) largest_end high) refl

-- a range before others that rise
rises_before : (at : ℕ) (s : Segment) (ps : List Piece) → at ≤ s.addr → end s ≤ largest_end → rises_from (end s) ps ≡ true
    → rises_from at (zero_piece s ∷ ps) ≡ true
rises_before at s ps low high rest = rw (le-leb at s.addr low, piece_end s, le-leb (end s) largest_end high) rest

-- one more range behind the last one
pub rises_more : (at : ℕ) (ss : List Segment) (s t : Segment) → rises_from at (map zero_piece (ss ++ s ∷ [])) ≡ true → end s ≤ t.addr → end t ≤ largest_end
    → rises_from at (map zero_piece ((ss ++ s ∷ []) ++ t ∷ [])) ≡ true
rises_more at [] s t h below high = grind (arith, rises_before, subst, piece_end, rises_one)
rises_more at (r ∷ ss) s t h below high =
    let f = first at (zero_piece r) (map zero_piece (ss ++ s ∷ [])) h in
    let rest = subst (λ (e : ℕ). rises_from e (map zero_piece (ss ++ s ∷ [])) ≡ true) (piece_end r) f.rest in
    rises_before at r (map zero_piece ((ss ++ s ∷ []) ++ t ∷ [])) f.after (subst (λ (e : ℕ). e ≤ largest_end) (piece_end r) f.most)
    (rises_more (end r) ss s t rest below high)

-- another range in place of the last one
pub rises_other : (at : ℕ) (ss : List Segment) (s t : Segment) → rises_from at (map zero_piece (ss ++ s ∷ [])) ≡ true → s.addr ≡ t.addr → end t ≤ largest_end
    → rises_from at (map zero_piece (ss ++ t ∷ [])) ≡ true
rises_other at [] s t h same high = grind (arith, rises_one, subst)
rises_other at (r ∷ ss) s t h same high =
    let f = first at (zero_piece r) (map zero_piece (ss ++ s ∷ [])) h in
    let rest = subst (λ (e : ℕ). rises_from e (map zero_piece (ss ++ s ∷ [])) ≡ true) (piece_end r) f.rest in
    rises_before at r (map zero_piece (ss ++ t ∷ [])) f.after (subst (λ (e : ℕ). e ≤ largest_end) (piece_end r) f.most)
    (rises_other (end r) ss s t rest same high)

-- the last range up to where the next one begins, and that one
pub rises_cut : (ss : List Segment) (s t cut : Segment) → in_order (map zero_piece (ss ++ s ∷ [])) ≡ true → cut.addr ≡ s.addr → end cut ≡ t.addr
    → end t ≤ end_of_addresses → in_order (map zero_piece ((ss ++ cut ∷ []) ++ t ∷ [])) ≡ true
rises_cut ss s t cut h start ends high = rises_more 0 ss cut t (rises_other 0 ss s cut h (sym start) (omega (arith, ends))) (omega (arith, ends)) high
