-- The spaces so far and those of the rest are all.
use Rattle.std.proofs.Common.{◌≡◌, ◌+◌, drop}
use Rattle.dma_manual.specs.Dump.{leading_spaces}
use Rattle.dma_manual.proofs.shown.leading_spaces.Given as goal

abbrev pub invariant-loop-count : goal.invariant-loop-count
invariant-loop-count l = l.count + leading_spaces (drop l.count l.bytes) ≡ leading_spaces l.bytes
