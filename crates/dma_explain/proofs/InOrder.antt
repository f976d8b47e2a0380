-- Whether regions are in order depends on their places alone, and so do the marks at the gaps between them.
use Rattle.std.proofs.Common.{arith}
use Rattle.std.proofs.Common.{◌≡◌, ◌∙◌, ℕ, ◌+◌, Bool, true, ◌&&◌, List, [], ◌∷◌, map, ap, refl, sym, ◌-◌}
use Rattle.std.specs.Prelude.{nat_le}
use Rattle.dma_mem.specs.Regions.{gaps_above, in_order, largest_end, pieces_of, read_only_of, rises_from}
use Rattle.dma_mem.specs.{Marking.MarkList, declared.regions.Region.Region, declared.segment.Segment.Segment}
use Rattle.dma_chan.specs.LentRegions.{segment_of, with_gaps_of}

-- whether segments rise from `at` on
abbrev rise : ℕ → List Segment → Bool
rise at [] = true
rise at (s ∷ ss) = nat_le at s.addr && (nat_le (s.addr + s.len) largest_end && rise (s.addr + s.len) ss)

rise_is : (at : ℕ) (rs : List Region) → rises_from at (pieces_of rs) ≡ rise at (map segment_of rs)
rise_is at [] = refl
rise_is at (r ∷ rs) =
    let end = (segment_of r).addr + (segment_of r).len in
    ap (λ (b : Bool). nat_le at r.addr && (nat_le end largest_end && b)) (rise_is end rs)

pub in_order_kept : (rs left : List Region) → map segment_of left ≡ map segment_of rs → in_order (pieces_of rs) ≡ true → in_order (pieces_of left) ≡ true
in_order_kept rs left same order = rise_is 0 left ∙ ap (rise 0) same ∙ sym (rise_is 0 rs) ∙ order

-- ---- and so do the gaps between them

abbrev between : ℕ → List Segment → List Segment
between at [] = []
between at (s ∷ ss) = record { addr = at; len = s.addr - at } ∷ between (s.addr + s.len) ss

between_is : (at : ℕ) (rs : List Region) → gaps_above at (pieces_of rs) ≡ between at (map segment_of rs)
between_is at [] = refl
between_is at (r ∷ rs) = ap (λ (ss : List Segment). record { addr = at; len = r.addr - at } ∷ ss) (between_is ((segment_of r).addr + (segment_of r).len) rs)

pub marks_kept : (rs left : List Region) (marks : MarkList) → map segment_of left ≡ map segment_of rs → read_only_of left ≡ read_only_of rs
    → with_gaps_of left marks ≡ with_gaps_of rs marks
marks_kept rs left marks same access = grind (arith, between_is)
