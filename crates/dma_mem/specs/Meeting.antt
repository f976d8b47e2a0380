-- Segments that meet: two of them, one and a mark, two transfers.
use Rattle.std.specs.{Prelude.ℕ, Prelude.Bool, Prelude.◌&&◌, List.range_with_len, List.Contains, List.list_any}
use Rattle.dma_mem.specs.Places.{Descriptor, Apart, share, sources, destinations}
use Rattle.dma_mem.specs.{declared.segment.Segment.Segment, declared.marks.MarkKind.MarkKind, Marking.MarkList, Marking.same_kind}

-- Two segments meet if they share an address; an empty segment meets nothing.
abbrev pub Meets : Segment → Segment → Type 0
Meets s t = (a : ℕ) × Contains (range_with_len s.addr s.len) a × Contains (range_with_len t.addr t.len) a

-- whether two segments meet
abbrev pub meets : Segment → Segment → Bool
meets s t = share (range_with_len s.addr s.len) (range_with_len t.addr t.len)

-- Whether a mark of the kind meets the segment.
abbrev pub hits : MarkKind → MarkList → Segment → Bool
hits kind marks s = list_any (λ m. same_kind kind m.0 && meets m.1 s) marks

-- A transfer is free of another if its destinations meet no range of the other, and its sources meet no destination of
-- the other.
pub record IsFree (t u : Descriptor) : Type 0 where
  pub writes_none : Apart (destinations t) (destinations u)
  pub writes_no_source : Apart (destinations t) (sources u)
  pub reads_none : Apart (sources t) (destinations u)
