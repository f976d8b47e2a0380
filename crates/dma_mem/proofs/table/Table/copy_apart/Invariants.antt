use Rattle.std.proofs.Common.{◌≡◌, ℕ, ◌-◌, ◌≤◌, length}
use Rattle.dma_mem.specs.{inner.Blocks.CopiesBlock, inner.ChunkTable.chunk_at}
use Rattle.dma_mem.proofs.table.Table.copy_apart.Given as goal

abbrev pub invariant-loop-done : goal.invariant-loop-done
invariant-loop-done l = record {
  within : l.done ≤ l.len;
  count : length l.self ≡ length l.fn.self;
  len : (p : ℕ) → length (chunk_at l.self p) ≡ length (chunk_at l.fn.self p);
  image : CopiesBlock l.fn.self l.self l.from l.to l.done;
}

abbrev pub decreases-loop-done : goal.decreases-loop-done
decreases-loop-done l = l.len - l.done
