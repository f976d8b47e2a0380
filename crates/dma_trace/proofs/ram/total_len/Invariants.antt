-- The sum of the first ranges.
use Rattle.std.proofs.Common.{◌≡◌, take}
use Rattle.dma_mem.specs.Refusals.{total}
use Rattle.dma_trace.proofs.ram.total_len.Given as goal

abbrev pub invariant-loop-range : goal.invariant-loop-range
invariant-loop-range l = l.len ≡ total (take l.range-index l.ranges)
