use Rattle.std.proofs.Common.{◌≡◌, take}
use Rattle.dma_mem.proofs.table.Group.try_copy.Given as goal

abbrev pub invariant-loop-chunk : goal.invariant-loop-chunk
invariant-loop-chunk l = l.chunks.items ≡ take l.chunk-index l.chunk-items
