-- How a transfer keeps its sources.
use Rattle.std.specs.Prelude.{ℕ, List, [], ◌∷◌, Bool, true, false, Option}
use Rattle.dma_mem.specs.{declared.segment.Segment.Segment, declared.transfer.SourceSegments.SourceSegments, Places.Descriptor}
use Rattle.dma_mem.specs.declared.transfer.SourceSegments.TheVariants as origins

-- the source segments: those of a list, or the one segment of a fill
abbrev pub segments_of : SourceSegments → List Segment
segments_of (origins.List segments) = segments
segments_of (origins.Place segment) = segment ∷ []

-- whether the source is the one place of a fill, which is read for every destination
abbrev pub is_place : SourceSegments → Bool
is_place (origins.List segments) = false
is_place (origins.Place segment) = true

-- what contracts see of a transfer with these fields
abbrev pub descriptor_of : SourceSegments → List Segment → Option ℕ → Option ℕ → Descriptor
descriptor_of src dst wait signal =
    record { fill = is_place src; src = segments_of src; dst = dst; wait = wait; signal = signal }
