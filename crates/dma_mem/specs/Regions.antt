-- Memory that a caller lends in several regions.
use Rattle.std.specs.Prelude.{ℕ, ◌+◌, ◌-◌, ◌==◌, Bool, true, ◌&&◌, nat_le, nat_lt, List, [], ◌∷◌, ◌++◌, length, drop, map, replicate, if◌then◌else◌}
use Rattle.dma_mem.specs.{declared.regions.Region.Region, declared.segment.Segment.Segment}

-- the largest end of a region: the end of the 32-bit addresses, 2 ^ 32
abbrev pub largest_end : ℕ
largest_end = 4294967296

-- A piece of a memory: the address of its first byte, and its bytes.
pub record Piece : Type 0 where
  pub addr : ℕ
  pub bytes : List ℕ

-- the address after its last byte
abbrev pub end_of : Piece → ℕ
end_of p = p.addr + length p.bytes

-- the piece of a region: its first address and its bytes
abbrev pub piece_of : Region → Piece
piece_of r = record { addr = r.addr; bytes = r.bytes.now }

-- the pieces of regions, in order
abbrev pub pieces_of : List Region → List Piece
pieces_of regions = map piece_of regions

-- the names of the loans of regions
abbrev pub names_of : List Region → List ℕ
names_of regions = map (λ r. r.bytes.ghost_name) regions

-- whether pieces are in rising order from `at` on, share no address, and end at or below the largest end
abbrev pub rises_from : ℕ → List Piece → Bool
rises_from at [] = true
rises_from at (p ∷ ps) = nat_le at p.addr && (nat_le (end_of p) largest_end && rises_from (end_of p) ps)

-- whether pieces are in rising order, share no address, and end at or below the largest end
abbrev pub in_order : List Piece → Bool
in_order ps = rises_from 0 ps

-- the bytes from `at` up to the end of the last piece, with zeros where no piece is
abbrev pub bytes_above : ℕ → List Piece → List ℕ
bytes_above at [] = []
bytes_above at (p ∷ ps) = replicate (p.addr - at) 0 ++ (p.bytes ++ bytes_above (end_of p) ps)

-- the image of a memory that has its bytes in these pieces
abbrev pub image_of : List Piece → List ℕ
image_of ps = bytes_above 0 ps

-- the segments between the pieces, and from `at` up to the first piece; each may be empty
abbrev pub gaps_above : ℕ → List Piece → List Segment
gaps_above at [] = []
gaps_above at (p ∷ ps) = record { addr = at; len = p.addr - at } ∷ gaps_above (end_of p) ps

-- the gaps of a memory that has its bytes in these pieces
abbrev pub gaps_of : List Piece → List Segment
gaps_of ps = gaps_above 0 ps

-- whether a piece has an address
abbrev pub has : ℕ → Piece → Bool
has a p = nat_le p.addr a && nat_lt a (end_of p)

-- the bytes from an address up to the first address that no piece has; none if no piece has it
abbrev pub run_from : List Piece → ℕ → List ℕ
run_from [] a = []
run_from (p ∷ ps) a = if has a p then drop (a - p.addr) p.bytes ++ run_from ps (end_of p) else run_from ps a

-- the segments of the regions that are read-only, and an empty one for each other region
abbrev pub read_only_of : List Region → List Segment
read_only_of regions = map (λ r. record { addr = r.addr; len = if r.read_only == 0 then 0 else length r.bytes.now }) regions
