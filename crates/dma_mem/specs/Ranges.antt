-- Sets of addresses as ranges.
use Rattle.std.specs.{Prelude.ℕ, Prelude.◌+◌, Prelude.◌<◌, Prelude.◌↔◌, Prelude.List, Prelude.All, Prelude.AllPairs, List.Contains}
use Rattle.dma_mem.specs.{declared.segment.Segment.Segment, Places.Descriptor, Places.places, Places.sources}

-- The two lists of segments have the same addresses.
abbrev pub SameAddresses : List Segment → List Segment → Type 0
SameAddresses xs ys = (a : ℕ) → Contains (places xs) a ↔ Contains (places ys) a

-- The ranges have exactly the addresses that the transfer reads.
abbrev pub HasSources : List Segment → Descriptor → Type 0
HasSources ranges t = (a : ℕ) → Contains (places ranges) a ↔ Contains (sources t) a

-- Coalesced ranges: each has bytes, and ends below the first address of every later one. So they are in rising order,
-- and no two meet or touch.
pub record IsCoalesced (ranges : List Segment) : Type 0 where
  pub filled : All (λ s. 0 < s.len) ranges
  pub apart : AllPairs (λ s t. s.addr + s.len < t.addr) ranges
