use Rattle.std.proofs.Common.{◌≡◌, ℕ, [], length}
use Rattle.dma_mem.specs.inner.ChunkTable.{chunk_at}
use Rattle.dma_mem.proofs.table.no_chunks.Given as goal

abbrev pub invariant-loop-chunk : goal.invariant-loop-chunk
invariant-loop-chunk l = record { long : length l.chunks.items ≡ l._chunk; none : (p : ℕ) → chunk_at l.chunks.items p ≡ [] }
