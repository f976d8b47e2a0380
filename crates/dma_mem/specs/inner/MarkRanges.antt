-- The ranges in which marks are found by binary search.
use Rattle.std.specs.{Prelude.ℕ, Prelude.List, Prelude.IsTrue, Prelude.◌↔◌, List.Contains}
use Rattle.dma_mem.specs.{declared.segment.Segment.Segment, declared.marks.MarkKind.MarkKind, declared.marks.MarkKind.TheVariants.Reading}
use Rattle.dma_mem.specs.{declared.marks.MarkKind.TheVariants.Writing, Places.places, Marking.MarkList, Marking.is_marked, inner.RangesInOrder.IsOrdered}

-- Ranges in order that have the addresses of the marks of a kind, and no others.
pub record AreRangesOf (kind : MarkKind) (marks : MarkList) (ranges : List Segment) : Type 0 where
  pub ordered : IsOrdered ranges
  pub same : (a : ℕ) → Contains (places ranges) a ↔ IsTrue (is_marked kind marks a)

-- The ranges for loads and those for stores.
pub record RangesOfMarks (marks : MarkList) (reading writing : List Segment) : Type 0 where
  pub loads : AreRangesOf Reading marks reading
  pub stores : AreRangesOf Writing marks writing
