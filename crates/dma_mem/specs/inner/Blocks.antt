-- Blocks of bytes that are copied or filled.
use Rattle.std.specs.Prelude.{◌≡◌, ℕ, ◌+◌, ◌≤◌, List, take, drop, replicate}
use Rattle.dma_mem.specs.{Image.put, Image.bytes_at, inner.ChunkTable.image_of}

-- the bytes after `len` of them were copied from index `from` to index `to`
abbrev pub copied : List ℕ → ℕ → ℕ → ℕ → List ℕ
copied bytes from to len = put bytes (bytes_at to (take len (drop from bytes)))

-- the bytes after `len` of them, from index `start` on, were set to one byte
abbrev pub filled : List ℕ → ℕ → ℕ → ℕ → List ℕ
filled bytes start len byte = put bytes (bytes_at start (replicate len byte))

-- The image of the chunks `new` is that of `old` after such a copy, for each size that includes both ranges.
abbrev pub CopiesBlock : List (List ℕ) → List (List ℕ) → ℕ → ℕ → ℕ → Type 0
CopiesBlock old new from to len =
    (size : ℕ) → from + len ≤ size → to + len ≤ size → image_of size new ≡ copied (image_of size old) from to len

-- The image of the chunks `new` is that of `old` after such a fill, for each size.
abbrev pub FillsBlock : List (List ℕ) → List (List ℕ) → ℕ → ℕ → ℕ → Type 0
FillsBlock old new start len byte = (size : ℕ) → image_of size new ≡ filled (image_of size old) start len byte
