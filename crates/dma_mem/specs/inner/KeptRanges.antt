-- How a set of addresses keeps its ranges.
use Rattle.std.specs.Prelude.{List, [], ◌∷◌, Option, Some, None}
use Rattle.dma_mem.specs.declared.segment.Segment.{Segment}

-- the ranges of a set: a single one, or else the list
abbrev pub ranges_of : Option Segment → List Segment → List Segment
ranges_of (Some range) list = range ∷ []
ranges_of None list = list
