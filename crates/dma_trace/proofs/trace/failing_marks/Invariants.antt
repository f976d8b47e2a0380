-- The marks of the segments so far are added.
use Rattle.std.proofs.Common.{◌≡◌, take}
use Rattle.dma_mem.specs.Lent.{marks_at}
use Rattle.dma_trace.proofs.trace.failing_marks.Given as goal

abbrev pub invariant-loop-segment : goal.invariant-loop-segment
invariant-loop-segment l = l.marks ≡ marks_at (take l.segment-index l.failing)
