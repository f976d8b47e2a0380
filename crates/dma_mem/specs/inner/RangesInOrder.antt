-- Ranges in the order that a binary search needs.
use Rattle.std.specs.Prelude.{◌≡◌, ℕ, ◌+◌, ◌≤◌, ◌<◌, ◌↔◌, ◌⊎◌, min, max, nat_le, Bool, true, false, List, All}
use Rattle.std.specs.{List.Contains, List.Sorted.IsNonDecreasingBy}
use Rattle.dma_mem.specs.{declared.segment.Segment.Segment, Places.places, Places.range_of}

-- Ranges in the order that a binary search needs: each has bytes, and neither the first addresses nor the ends decrease
-- from one range to the next. They may meet.
pub record IsOrdered (ranges : List Segment) : Type 0 where
  pub filled : All (λ s. 0 < s.len) ranges
  pub starts : IsNonDecreasingBy (λ (s : Segment). s.addr) ranges
  pub ends : IsNonDecreasingBy (λ (s : Segment). s.addr + s.len) ranges

-- The ranges `new` have the addresses of the ranges `old` and of a segment, and no others.
abbrev pub AddsAddresses : List Segment → List Segment → Segment → Type 0
AddsAddresses old new s = (a : ℕ) → Contains (places new) a ↔ (Contains (places old) a ⊎ Contains (range_of s) a)

-- None of the `len` addresses from `addr` on is in the ranges.
abbrev pub IsClearOf : List Segment → ℕ → ℕ → Type 0
IsClearOf ranges addr len = (a : ℕ) → addr ≤ a → a < addr + len → ¬ Contains (places ranges) a

-- How a range is joined with the next segment. If the segment begins at or below the range's end, the range then ends
-- at the greater of both ends, at most 4,294,967,295; otherwise it is unchanged. The segment is unchanged.
pub record Joins (next range : Segment) (joined : Bool) (next' range' : Segment) : Type 0 where
  pub next_same : next' ≡ next
  pub value : joined ≡ nat_le next.addr (range.addr + range.len)
  pub start : range'.addr ≡ range.addr
  pub end : joined ≡ true → range'.addr + range'.len ≡ min (max (range.addr + range.len) (next.addr + next.len)) 4294967295
  pub apart : joined ≡ false → range' ≡ range
