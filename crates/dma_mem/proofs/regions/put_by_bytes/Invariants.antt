use Rattle.std.proofs.Common.{take}
use Rattle.dma_mem.specs.inner.Rewritten.{Rewritten}
use Rattle.dma_mem.proofs.regions.put_by_bytes.Given as goal

abbrev pub invariant-loop-i : goal.invariant-loop-i
invariant-loop-i l = Rewritten l.fn.regions l.regions l.addr (take l.i l.bytes)
