-- The rows so far are appended.
use Rattle.std.proofs.Common.{◌≡◌, ◌++◌}
use Rattle.std.specs.{Prelude.flat_map, List.range_with_len}
use Rattle.dma_mem.specs.Regions.{pieces_of}
use Rattle.dma_trace.specs.Traced.{row_text}
use Rattle.dma_trace.proofs.lines.push_dump.Given as goal

abbrev pub invariant-loop-row : goal.invariant-loop-row
invariant-loop-row l = record { text : l.out.items ≡ l.initial.out.items ++ flat_map (row_text (pieces_of l.regions) l.segment) (range_with_len 0 l.row) }
