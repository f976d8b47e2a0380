use Rattle.std.proofs.Common.{◌≡◌, ℕ, ◌+◌, ◌-◌, ◌/◌, ◌<◌, ◌≤◌, length, get_or}
use Rattle.dma_mem.specs.inner.ChunkTable.{chunk_at}
use Rattle.dma_mem.proofs.table.Table.make.Given as goal

abbrev pub invariant-loop-number : goal.invariant-loop-number
invariant-loop-number l = record {
  end : l.number-end ≡ (l.end - 1) / 16384 + 1;
  from : l.start / 16384 ≤ l.number;
  count : length l.self ≡ length l.fn.self;
  made : (p : ℕ) → l.start / 16384 ≤ p → p < l.number → 0 < length (chunk_at l.self p);
  bytes : (p k : ℕ) → get_or (chunk_at l.self p) k 0 ≡ get_or (chunk_at l.fn.self p) k 0;
  kept : (p : ℕ) → 0 < length (chunk_at l.fn.self p) → chunk_at l.self p ≡ chunk_at l.fn.self p;
}
