-- How lists are stored: a short one in the value itself.
use Rattle.std.specs.Prelude.{ℕ, ◌≤◌, List, [], ◌∷◌, take}
use Rattle.dma_mem.specs.declared.lists.StoredBytes.TheVariants.{Few, Long}
use Rattle.dma_mem.specs.declared.lists.StoredSegments.TheVariants.{Empty, One, Many}
use Rattle.dma_mem.specs.{declared.segment.Segment.Segment, declared.lists.StoredBytes.StoredBytes, declared.lists.StoredSegments.StoredSegments}

-- the bytes of a list
abbrev pub bytes_in : StoredBytes → List ℕ
bytes_in (Few len bytes) = take len bytes
bytes_in (Long bytes) = bytes.value.items

-- A value has room for the bytes that it keeps.
abbrev pub FitsInline : StoredBytes → Type 0
FitsInline (Few len bytes) = len ≤ 22
FitsInline (Long bytes) = Unit {0}

-- the segments of a list
abbrev pub segments_in : StoredSegments → List Segment
segments_in Empty = []
segments_in (One segment) = segment ∷ []
segments_in (Many segments) = segments.value.items
