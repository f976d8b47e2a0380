-- Definitions for the contracts of the compiler's parts.
use Rattle.std.specs.Prelude.{◌≡◌, ℕ, ◌+◌, ◌^◌, ◌<◌, ◌≤◌, List, [], ◌∷◌, ◌++◌, length, not}
use Rattle.dma_mem.specs.declared.segment.Segment.{Segment}
use Rattle.dma_chan.specs.{declared.compile.Beat.Beat, Compiled.control_word, Tree.Tree, Tree.bytes_of, Tree.unrolled}

-- how many bytes a list of segments has
abbrev pub byte_count : List Segment → ℕ
byte_count [] = 0
byte_count (s ∷ ss) = s.len + byte_count ss

-- A segment has at least one byte, and all its addresses are below 2 ^ 32.
abbrev pub IsRange : Segment → Type 0
IsRange s = (0 < s.len) × (s.addr + s.len ≤ 2 ^ 32)

-- how many instructions running a tree executes
unfoldable pub cost_of : Tree → ℕ
cost_of t = length (unrolled t)

-- The bytes of a tree are appended.
abbrev pub Appends : List ℕ → List ℕ → Tree → Type 0
Appends old new t = new ≡ old ++ bytes_of t

-- the control word of bursts of k such beats
abbrev pub word_of : Beat → ℕ → ℕ
word_of b k = control_word (not b.source_rises) b.size k
