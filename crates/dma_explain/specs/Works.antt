-- Which addresses a work uses, and what memory has when it is done.
use Rattle.std.specs.{Prelude.◌≡◌, Prelude.ℕ, Prelude.◌⊎◌, Prelude.◌&&◌, Prelude.Bool, Prelude.false, Prelude.List, Prelude.slice_index, List.Contains}
use Rattle.dma_mem.specs.Places.{all_below, size_of, lies_below}
use Rattle.dma_mem.specs.{Image.laid, declared.marks.MarkKind.TheVariants.Writing, Marking.MarkList, Marking.is_marked}
use Rattle.dma_chan.specs.Others.{Misses, Touches}
use Rattle.dma_explain.specs.Explains.{Work, cleared}

-- whether a program's work reads or writes an address
abbrev pub Uses : Work → ℕ → Type 0
Uses w a = Touches w.copy a ⊎ Contains (cleared w) a

-- No mark lies at an address that the work uses.
pub record MissesAll (marks : MarkList) (w : Work) : Type 0 where
  pub copy : Misses marks w.copy
  pub zeros : (a : ℕ) → Contains (cleared w) a → is_marked Writing marks a ≡ false

-- whether all ranges of the work lie below a memory's size
abbrev pub work_below : Work → ℕ → Bool
work_below w size = lies_below w.copy size && all_below w.zeros size

-- The work is done: each address that the copy touches has the same byte as after one simultaneous copy of all its
-- bytes in the memory `first`, and each address that is set to 0 has 0.
pub record IsWorked (w : Work) (first image : List ℕ) : Type 0 where
  pub copied : (a : ℕ) → Touches w.copy a → slice_index image a ≡ slice_index (laid first w.copy (size_of w.copy)) a
  pub zeros : (a : ℕ) → Contains (cleared w) a → slice_index image a ≡ 0
