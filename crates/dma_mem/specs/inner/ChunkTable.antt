-- The chunks behind an image: groups of 256 chunks of 16,384 bytes, which is four pages each.
use Rattle.std.specs.Prelude.{◌≡◌, ◌≢◌, ℕ, ◌*◌, ◌/◌, ◌%◌, ◌+◌, ◌<◌, ◌≤◌, Bool, true, false, nat_eq, nat_lt, ◌&&◌, if◌then◌else◌, List, [], length, map}
use Rattle.std.specs.Prelude.{replicate, slice_index, slice_index_or}
use Rattle.std.specs.List.{range_with_len}
use Rattle.dma_mem.specs.{Image.put, Image.bytes_at, Pages.Paged, Pages.page_size}

-- how many bytes a chunk has
abbrev pub chunk_size : ℕ
chunk_size = 16384

-- whether the list of a chunk has memory but no items
abbrev pub is_blank : ℕ → List ℕ → Bool
is_blank capacity items = nat_eq (length items) 0 && nat_lt 0 capacity

-- the bytes of a blank chunk, all 0
unfoldable pub blank : List ℕ
blank = replicate chunk_size 0

-- the bytes that a chunk shows, by the capacity and the items of its list
abbrev pub bytes_shown : ℕ → List ℕ → List ℕ
bytes_shown capacity items = if is_blank capacity items then blank else items

-- the bytes of a chunk: 16,384 if it is made, otherwise none
abbrev pub chunk_at : List (List ℕ) → ℕ → List ℕ
chunk_at chunks p = slice_index_or chunks p []

-- Two chunks have the same bytes. Past the end of a chunk all bytes are zero.
abbrev pub SameBytes : List ℕ → List ℕ → Type 0
SameBytes old new = (k : ℕ) → slice_index new k ≡ slice_index old k

-- The chunks other than this one are the same.
abbrev pub OthersStay : List (List ℕ) → List (List ℕ) → ℕ → Type 0
OthersStay old new number = (p : ℕ) → p ≢ number → chunk_at new p ≡ chunk_at old p

-- Each chunk has as many bytes as before, so the same chunks are made.
abbrev pub SameLengths : List (List ℕ) → List (List ℕ) → Type 0
SameLengths old new = (p : ℕ) → length (chunk_at new p) ≡ length (chunk_at old p)

-- the chunk in which an address lies
abbrev pub chunk_of : List (List ℕ) → ℕ → List ℕ
chunk_of chunks a = chunk_at chunks (a / chunk_size)

-- the byte at an address: zero in a chunk that isn't made
abbrev pub byte_at : List (List ℕ) → ℕ → ℕ
byte_at chunks a = slice_index (chunk_of chunks a) (a % chunk_size)

-- These are the bytes from an address on.
abbrev pub AreBytesFrom : List (List ℕ) → ℕ → List ℕ → Type 0
AreBytesFrom chunks start bytes = (k : ℕ) → k < length bytes → slice_index bytes k ≡ byte_at chunks (start + k)

-- The chunk of each address from `start` up to, but not including, `end` is made.
abbrev pub RangeMade : List (List ℕ) → ℕ → ℕ → Type 0
RangeMade chunks start end = (a : ℕ) → start ≤ a → a < end → 0 < length (chunk_of chunks a)

-- The chunk of an address from `start` up to, but not including, `end` isn't made.
abbrev pub RangeMissing : List (List ℕ) → ℕ → ℕ → Type 0
RangeMissing chunks start end = (a : ℕ) × (start ≤ a) × (a < end) × (length (chunk_of chunks a) ≡ 0)

-- how many chunks are in one group of the table
abbrev pub group_size : ℕ
group_size = 256

-- the chunks of groups of 256, group after group; an empty group has no chunk that is made
unfoldable pub flat : List (List (List ℕ)) → List (List ℕ)
flat groups =
    map (λ p. chunk_at (slice_index_or groups (p / group_size) []) (p % group_size))
    (range_with_len 0 (group_size * length groups))

-- the byte at each address below a size: zero in a chunk that isn't made
unfoldable pub image_of : ℕ → List (List ℕ) → List ℕ
image_of size chunks = map (λ a. byte_at chunks a) (range_with_len 0 size)

-- Each page that is made lies in a chunk that is made.
abbrev pub HasChunks : List Bool → List (List ℕ) → Type 0
HasChunks made chunks =
    (p : ℕ) → slice_index_or made p false ≡ true → 0 < length (chunk_of chunks (page_size * p))

-- what contracts see of a memory of this size, with these chunks and a flag for each page
abbrev pub paged : ℕ → List (List ℕ) → List Bool → Paged
paged size chunks made = record { image = image_of size chunks; made = made }

-- For each size, the image `new` is the image `old` with these bytes put from `start` on.
abbrev pub PutsBytes : List (List ℕ) → List (List ℕ) → ℕ → List ℕ → Type 0
PutsBytes old new start bytes = (size : ℕ) → image_of size new ≡ put (image_of size old) (bytes_at start bytes)
