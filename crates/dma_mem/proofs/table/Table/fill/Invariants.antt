use Rattle.std.proofs.Common.{◌≡◌, ℕ, ◌-◌, ◌≤◌, length}
use Rattle.dma_mem.specs.{inner.Blocks.FillsBlock, inner.ChunkTable.chunk_at}
use Rattle.dma_mem.proofs.table.Table.fill.Given as goal

abbrev pub invariant-loop-done : goal.invariant-loop-done
invariant-loop-done l = record {
  within : l.done ≤ l.len;
  count : length l.self ≡ length l.fn.self;
  len : (p : ℕ) → length (chunk_at l.self p) ≡ length (chunk_at l.fn.self p);
  image : FillsBlock l.fn.self l.self l.start l.done l.byte;
}

abbrev pub decreases-loop-done : goal.decreases-loop-done
decreases-loop-done l = l.len - l.done
