-- The ranges so far and the last one are in order, and have the addresses of the first sorted ranges. The last one
-- begins no higher than those that are left.
use Rattle.std.proofs.Common.{◌≡◌, ℕ, ◌+◌, ◌<◌, ◌≤◌, [], ◌∷◌, ◌++◌, length, get_or, map, take}
use Rattle.std.specs.Prelude.{IsTrue}
use Rattle.dma_mem.specs.{Lent.lies_in_any, Places.end_of_addresses, Regions.in_order}
use Rattle.dma_trace.specs.Found.{zero_piece}
use Rattle.dma_trace.proofs.Regions.{no_range}
use Rattle.dma_trace.proofs.ram.merged.Given as goal

abbrev pub invariant-loop-range : goal.invariant-loop-range
invariant-loop-range l = record {
  order : IsTrue (in_order (map zero_piece (l.ranges.items ++ l.last ∷ [])));
  within : l.last.addr + l.last.len ≤ end_of_addresses;
  below : (j : ℕ) → l.range-index ≤ j → j < length l.sorted → l.last.addr ≤ (get_or l.sorted j no_range).addr;
  places : (a : ℕ) → lies_in_any (l.ranges.items ++ l.last ∷ []) a ≡ lies_in_any (get_or l.sorted 0 no_range ∷ take l.range-index l.sorted) a;
}
