-- The places of a list of segments, descriptors of transfers, and when two transfers are free of each other.
use Rattle.std.specs.Prelude.{ℕ, List, [], ◌∷◌, length, take, Option, Bool, true, false, ◌||◌, ◌&&◌, not, nat_eq, nat_le, ◌+◌, if◌then◌else◌}
use Rattle.std.specs.List.{flat_map, range_with_len, Contains, list_any, list_all, zip}
use Rattle.dma_mem.specs.declared.segment.Segment.{Segment}

-- the end of the controller's 32-bit addresses (PL330 manual, SAR and DAR)
abbrev pub end_of_addresses : ℕ
end_of_addresses = 4294967296

-- the addresses of a segment, rising
abbrev pub range_of : Segment → List ℕ
range_of s = range_with_len s.addr s.len

-- The addresses of a list of segments, segment after segment, each rising (dmaengine scatter list).
abbrev pub places : List Segment → List ℕ
places list = flat_map (λ s. range_with_len s.addr s.len) list

-- no address is in both lists
abbrev pub Apart : List ℕ → List ℕ → Type 0
Apart xs ys = (a : ℕ) → Contains xs a → ¬ Contains ys a

-- whether an address is in both lists
unfoldable pub share : List ℕ → List ℕ → Bool
share xs ys = list_any (λ a. list_any (nat_eq a) ys) xs

-- What a transfer copies from where to where, whether it is a fill, and the events that it waits for and signals. A
-- fill has one source segment, of one byte.
pub record Descriptor : Type 0 where
  pub fill : Bool
  pub src : List Segment
  pub dst : List Segment
  pub wait : Option ℕ
  pub signal : Option ℕ

-- a copy, from the places of one list to those of another
abbrev pub copying : List Segment → List Segment → Option ℕ → Option ℕ → Descriptor
copying src dst wait signal = record { fill = false; src = src; dst = dst; wait = wait; signal = signal }

-- a fill: the byte at one address is copied to every place of a list (profile, after dmaengine memset; its source
-- address doesn't increment: PL330 manual, CCR bit 0)
abbrev pub filling : ℕ → List Segment → Option ℕ → Option ℕ → Descriptor
filling src dst wait signal =
    record { fill = true; src = record { addr = src; len = 1 } ∷ []; dst = dst; wait = wait; signal = signal }

-- the places that a transfer writes
abbrev pub destinations : Descriptor → List ℕ
destinations t = places t.dst

-- the places that it reads: the place at position p is copied to the destination at position p; a fill reads its one
-- place for every destination
abbrev pub sources : Descriptor → List ℕ
sources t = if t.fill then flat_map (λ d. places t.src) (destinations t) else places t.src

-- how many bytes it copies
abbrev pub size_of : Descriptor → ℕ
size_of t = length (destinations t)

-- the first k moves of a transfer: each destination place beside its source place
abbrev pub moves : Descriptor → ℕ → List (ℕ × ℕ)
moves t k = take k (zip (destinations t) (sources t))

-- whether each segment of the list ends at or below `size`
abbrev pub all_below : List Segment → ℕ → Bool
all_below list size = list_all (λ s. nat_le (s.addr + s.len) size) list

-- whether all segments of a transfer end at or below `size`
abbrev pub lies_below : Descriptor → ℕ → Bool
lies_below t size = all_below t.src size && all_below t.dst size

-- whether the transfer writes an address of the segment
abbrev pub writes : Descriptor → Segment → Bool
writes t s = share (range_with_len s.addr s.len) (destinations t)

-- whether the transfer writes or reads an address of the segment
abbrev pub touches : Descriptor → Segment → Bool
touches t s = share (range_with_len s.addr s.len) (destinations t) || share (range_with_len s.addr s.len) (sources t)

-- whether a transfer is free of another: its destinations meet no range of the other, and its sources no destination of
-- it
abbrev pub is_free_of : Descriptor → Descriptor → Bool
is_free_of t u =
    not (share (destinations t) (destinations u)
    || (share (destinations t) (sources u) || share (sources t) (destinations u)))
