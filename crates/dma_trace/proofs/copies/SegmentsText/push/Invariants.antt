-- The lines of the first items are appended.
use Rattle.std.proofs.Common.{◌≡◌, ◌++◌, take}
use Rattle.std.specs.Prelude.{flat_map}
use Rattle.dma_trace.specs.Explained.{segment_line}
use Rattle.dma_trace.proofs.copies.SegmentsText.push.Given as goal

abbrev pub invariant-loop-segment : goal.invariant-loop-segment
invariant-loop-segment l = record { text : l.out.items ≡ l.initial.out.items ++ flat_map (segment_line l.words) (take l.segment-index l.segments) }
