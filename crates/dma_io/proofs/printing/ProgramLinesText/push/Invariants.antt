-- The lines of the first rows are appended, and the remaining bytes begin where they end.
use Rattle.std.proofs.Common.{◌≡◌, ℕ, ◌≤◌, ◌+◌, ◌*◌, ◌++◌, drop, length}
use Rattle.std.specs.Slice.Iter.{chunks_rest, chunks_size}
use Rattle.dma_io.proofs.RowLemmas.{front_text}
use Rattle.dma_io.proofs.printing.ProgramLinesText.push.Given as goal

abbrev pub invariant-loop-row : goal.invariant-loop-row
invariant-loop-row l =
    goal.iterator-loop-row.can_next l.row-iterator
    × goal.iterator-loop-row.is_finite l.row-iterator
    × (chunks_size l.row-iterator ≡ 16)
    × ((count : ℕ) × (16 * count ≤ length l.self.0.now + 15) × (chunks_rest l.row-iterator ≡ drop (16 * count) l.self.0.now)
    × (l.out.items ≡ l.initial.out.items ++ front_text l.self.0.now count))
