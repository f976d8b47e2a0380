-- The rows of the first ranges are appended.
use Rattle.std.proofs.Common.{◌≡◌, ◌++◌, take}
use Rattle.std.specs.Prelude.{flat_map}
use Rattle.dma_mem.specs.Regions.{pieces_of}
use Rattle.dma_trace.specs.Traced.{dump_text}
use Rattle.dma_trace.proofs.lines.push_dumps.Given as goal

abbrev pub invariant-loop-segment : goal.invariant-loop-segment
invariant-loop-segment l = record { text : l.out.items ≡ l.initial.out.items ++ flat_map (dump_text (pieces_of l.regions)) (take l.segment-index l.dumps) }
