use Rattle.std.proofs.Common.{◌≡◌, ℕ, ◌-◌, ◌≤◌, length, take}
use Rattle.dma_mem.specs.inner.ChunkTable.{chunk_at, PutsBytes}
use Rattle.dma_mem.proofs.table.Table.put_in_turn.Given as goal

abbrev pub invariant-loop-done : goal.invariant-loop-done
invariant-loop-done l = record {
  within : l.done ≤ length l.bytes;
  count : length l.self ≡ length l.fn.self;
  len : (p : ℕ) → length (chunk_at l.self p) ≡ length (chunk_at l.fn.self p);
  image : PutsBytes l.fn.self l.self l.start (take l.done l.bytes);
}

abbrev pub decreases-loop-done : goal.decreases-loop-done
decreases-loop-done l = length l.bytes - l.done
