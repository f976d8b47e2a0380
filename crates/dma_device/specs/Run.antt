-- A device with the memory that a host lends it, and what accesses make of them, step by step.
use Rattle.std.specs.Prelude.{◌≡◌, ℕ, zero, suc, ◌+◌, ◌-◌, ◌<◌, ◌≤◌, List, [], ◌∷◌, ◌++◌, length, take, drop, slice_set}
use Rattle.dma_mem.specs.Regions.{Piece, end_of, gaps_of, image_of, pieces_of, read_only_of}
use Rattle.dma_mem.specs.{Lent.marks_at, Lent.stores_at, Marking.MarkList, declared.regions.Region.Region, declared.segment.Segment.Segment}
use Rattle.dma_device.specs.Accesses.{Access, Answer, AreAlike, Done, Happen, Reads, Resets, Restores, Stores, Turned, Turns, Value, Writes}
use Rattle.dma_device.specs.{Device.DeviceValue, Device.read_at, Device.reset_device, Device.written, Turns.turned}

-- Lent memory: its pieces, and the segments of those that are read-only.
pub record Ram : Type 0 where
  pub pieces : List Piece
  pub read_only : List Segment

-- A device, and the memory that it is lent.
pub record LentDevice : Type 0 where
  pub device : DeviceValue
  pub ram : Ram

-- the memory that regions lend
abbrev pub ram_of : List Region → Ram
ram_of regions = record { pieces = pieces_of regions; read_only = read_only_of regions }

-- a device with the memory that regions lend
abbrev pub lent_device : DeviceValue → List Region → LentDevice
lent_device d regions = record { device = d; ram = ram_of regions }

-- pieces at the same places, with the bytes of an image that begins at an address
abbrev pub put_from : ℕ → List ℕ → List Piece → List Piece
put_from at image [] = []
put_from at image (p ∷ ps) =
    let here = drop (p.addr - at) image in
    record { addr = p.addr; bytes = take (length p.bytes) here } ∷ put_from (end_of p) (drop (length p.bytes) here) ps

-- the memory with the bytes of an image
abbrev pub with_image : List ℕ → Ram → Ram
with_image image ram = record ram { pieces = put_from 0 image ram.pieces }

-- the marks at which bursts fail: the gaps between the pieces, and for stores the read-only segments
abbrev pub marks_of : Ram → MarkList
marks_of ram = marks_at (gaps_of ram.pieces) ++ (stores_at ram.read_only ++ [])

-- ---- accesses

-- the device and its memory after a turn of channel n of at most `most` steps, and what the turn reports
abbrev pub turned_on : ℕ → ℕ → LentDevice → LentDevice × Answer
turned_on n most b =
    let turn = turned (marks_of b.ram) n most (record { device = b.device; image = image_of b.ram.pieces }) in
    (record { device = turn.0.device; ram = with_image turn.0.image b.ram }, Turned turn.1)

-- the device and its memory after an access, and what the access returns
abbrev pub next : Access → LentDevice → LentDevice × Answer
next (Reads at) b = (b, Value (read_at b.device at))
next (Writes at value) b = (record b { device = written b.ram.pieces at value b.device }, Done)
next (Turns n most) b = turned_on n most b
next (Stores addr byte) b =
    (record b { ram = with_image (slice_set (image_of b.ram.pieces) addr byte) b.ram }, Done)
next Resets b = (record b { device = reset_device b.device.config }, Done)
next (Restores saved) b = (record b { device = saved }, Done)

-- the device and its memory after this number of accesses
abbrev pub run : (ℕ → Access) → LentDevice → ℕ → LentDevice
run access b zero = b
run access b (suc k) = (next (access k) (run access b k)).0

-- The memory stays: each access after the first is lent what the one before it left.
abbrev pub StaysLent : (lent left : ℕ → List Region) → ℕ → Type 0
StaysLent lent left count = (k : ℕ) → k < count → AreAlike (lent (k + 1)) (left k)

-- For every list of accesses in which the memory stays, the device, with its lines, and all of the memory after each of
-- them, and what each returns, are what `run` gives.
abbrev pub RunsStepByStep : Type 0
RunsStepByStep =
    (access : ℕ → Access) (answer : ℕ → Answer) (before : ℕ → DeviceValue) (lent left : ℕ → List Region)
    (count : ℕ) → Happen access answer before lent left count → StaysLent lent left count →
    ((k : ℕ) → k ≤ count → lent_device (before k) (lent k) ≡ run access (lent_device (before 0) (lent 0)) k)
    × ((k : ℕ) → k < count → answer k ≡ (next (access k) (run access (lent_device (before 0) (lent 0)) k)).1)
