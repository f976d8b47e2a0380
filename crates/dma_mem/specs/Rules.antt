-- The rules of a transfer.
use Rattle.std.specs.Prelude.{◌≡◌, ◌≢◌, ◌+◌, ◌<◌, ◌≤◌, ℕ, List, [], ◌∷◌, length, true, All, AllPairs, IfSome}
use Rattle.dma_mem.specs.Places.{Descriptor, Apart, end_of_addresses, sources, destinations, size_of}
use Rattle.dma_mem.specs.{declared.segment.Segment.Segment, Limits.last_event, Limits.most_segments, Limits.most_transfer_bytes}

-- A list has 1 to 64 segments, none of them empty, and none ends above 2 ^ 32.
pub record IsSegmentList (list : List Segment) : Type 0 where
  pub some : 0 < length list
  pub few : length list ≤ most_segments
  pub filled : All (λ s. 0 < s.len) list
  pub within : All (λ s. s.addr + s.len ≤ end_of_addresses) list

-- A fill has one source segment, of one byte.
abbrev pub HasOneByte : Descriptor → Type 0
HasOneByte t = t.fill ≡ true → (a : ℕ) × (t.src ≡ record { addr = a; len = 1 } ∷ [])

-- The rules of every transfer. Both lists are segment lists, and a fill has one source byte. As many places are read as
-- written, at most 1,048,576 (profile). No place is written twice, and none is both read and written, so that all bytes
-- can be copied at once. Both events are at most 31.
pub record IsTransfer (t : Descriptor) : Type 0 where
  pub one_byte : HasOneByte t
  pub source_list : IsSegmentList t.src
  pub destination_list : IsSegmentList t.dst
  pub same_length : length (sources t) ≡ length (destinations t)
  pub short : size_of t ≤ most_transfer_bytes
  pub once : AllPairs (λ a b. a ≢ b) (destinations t)
  pub apart : Apart (sources t) (destinations t)
  pub wait_event : IfSome t.wait (λ event. event ≤ last_event)
  pub signal_event : IfSome t.signal (λ event. event ≤ last_event)
