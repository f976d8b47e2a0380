-- The warnings so far and those about the rest are all.
use Rattle.std.proofs.Common.{◌≡◌, ◌++◌, ◌+◌, ◌≤◌, length}
use Rattle.dma_trace.specs.Warnings.{unnested, warned_from}
use Rattle.dma_trace.proofs.warnings.warnings_of.Given as goal

abbrev pub invariant-loop-rest : goal.invariant-loop-rest
invariant-loop-rest l = record {
  counted : l.pc + length l.rest ≡ length l.program;
  lc0 : l.nest.lc0.depth ≤ l.pc;
  lc1 : l.nest.lc1.depth ≤ l.pc;
  all : l.found.items ++ warned_from l.nest l.pc 0 l.rest ≡ warned_from unnested 0 0 l.program;
}

abbrev pub decreases-loop-rest : goal.decreases-loop-rest
decreases-loop-rest l = length l.rest
