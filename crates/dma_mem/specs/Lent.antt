-- Memory that a caller lends: the loans through which it is reached, and the addresses at which it has no bytes.
use Rattle.std.specs.Prelude.{◌≡◌, ℕ, ◌+◌, ◌≤◌, ◌<◌, Bool, false, List, [], ◌∷◌, ◌++◌, map}
use Rattle.std.specs.List.{flat_map, list_any}
use Rattle.dma_mem.specs.{declared.segment.Segment.Segment, declared.marks.MarkKind.MarkKind, declared.marks.MarkKind.TheVariants.Reading}
use Rattle.dma_mem.specs.{declared.marks.MarkKind.TheVariants.Writing, Marking.MarkList, Marking.lies_in}

-- What no call changes of a memory: the names of the loans through which it is reached, if it is lent, its gaps, which
-- are the segments below its size in which it has no bytes, and the segments that are read-only.
pub record Loan : Type 0 where
  pub names : List ℕ
  pub gaps : List Segment
  pub read_only : List Segment

-- the loan of a memory that isn't lent and can be read and written everywhere
abbrev pub not_lent : Loan
not_lent = record { names = []; gaps = []; read_only = [] }

-- the segments at which bursts of a kind fail: the gaps, and for stores also the segments that are read-only
abbrev pub barred : MarkKind → List Segment → List Segment → List Segment
barred Reading gaps read_only = gaps
barred Writing gaps read_only = gaps ++ read_only

-- `barred` for a memory
abbrev pub barred_of : MarkKind → Loan → List Segment
barred_of kind loan = barred kind loan.gaps loan.read_only

-- whether an address lies in one of these segments
abbrev pub lies_in_any : List Segment → ℕ → Bool
lies_in_any gaps a = list_any (lies_in a) gaps

-- None of the `len` addresses from `addr` on lies in one of these segments.
abbrev pub Avoids : List Segment → ℕ → ℕ → Type 0
Avoids gaps addr len = (a : ℕ) → addr ≤ a → a < addr + len → lies_in_any gaps a ≡ false

-- marks of both kinds at each of these segments
abbrev pub marks_at : List Segment → MarkList
marks_at gaps = flat_map (λ s. (Reading, s) ∷ (Writing, s) ∷ []) gaps

-- marks for stores at each of these segments
abbrev pub stores_at : List Segment → MarkList
stores_at segments = map (λ s. (Writing, s)) segments

-- the marks at which bursts over a memory fail: its gaps, for stores what is read-only, and the given marks
abbrev pub with_gaps : Loan → MarkList → MarkList
with_gaps loan marks = marks_at loan.gaps ++ (stores_at loan.read_only ++ marks)
