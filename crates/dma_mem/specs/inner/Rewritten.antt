-- Regions of a caller's memory, by index, and after a write to them.
use Rattle.std.specs.Prelude.{◌≡◌, ℕ, ◌+◌, ◌-◌, ◌==◌, ◌≤◌, Bool, false, not, List, [], ◌∷◌, length, drop, slice_index_or, IsTrue, if◌then◌else◌}
use Rattle.dma_mem.specs.Regions.{Piece, end_of, pieces_of, has, in_order, image_of, gaps_of, names_of, read_only_of}
use Rattle.dma_mem.specs.{declared.marks.MarkKind.MarkKind, declared.marks.MarkKind.TheVariants.Reading, declared.marks.MarkKind.TheVariants.Writing}
use Rattle.dma_mem.specs.{declared.regions.Region.Region, Image.put, Image.bytes_at, Lent.Avoids}

-- the piece past the last one, which has no bytes
abbrev pub nowhere : Piece
nowhere = record { addr = 0; bytes = [] }

-- the piece at an index
abbrev pub piece_at : List Piece → ℕ → Piece
piece_at ps k = slice_index_or ps k nowhere

-- the bytes of the piece that has an address, from that address on; none if no piece has it
abbrev pub rest_from : List Piece → ℕ → List ℕ
rest_from [] a = []
rest_from (p ∷ ps) a = if has a p then drop (a - p.addr) p.bytes else rest_from ps a

-- whether bursts of a kind fail in a region
abbrev pub bars : MarkKind → Region → Bool
bars Reading r = false
bars Writing r = not (r.read_only == 0)

-- The piece at an index has the `len` addresses from `addr` on.
pub record Holds (ps : List Piece) (index addr len : ℕ) : Type 0 where
  pub first : (piece_at ps index).addr ≤ addr
  pub last : addr + len ≤ end_of (piece_at ps index)

-- Regions are in order, and have each of the `len` addresses from `addr` on.
pub record Writable (regions : List Region) (addr len : ℕ) : Type 0 where
  pub order : IsTrue (in_order (pieces_of regions))
  pub within : addr + len ≤ length (image_of (pieces_of regions))
  pub gaps : Avoids (gaps_of (pieces_of regions)) addr len

-- The regions `new` are `old` after these bytes were written from `addr` on.
pub record Rewritten (old new : List Region) (addr : ℕ) (bytes : List ℕ) : Type 0 where
  pub image : image_of (pieces_of new) ≡ put (image_of (pieces_of old)) (bytes_at addr bytes)
  pub order : in_order (pieces_of new) ≡ in_order (pieces_of old)
  pub gaps : gaps_of (pieces_of new) ≡ gaps_of (pieces_of old)
  pub names : names_of new ≡ names_of old
  pub read_only : read_only_of new ≡ read_only_of old
