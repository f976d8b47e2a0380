-- The lines of the first items are appended.
use Rattle.std.proofs.Common.{◌≡◌, ◌++◌, take}
use Rattle.std.specs.Prelude.{flat_map}
use Rattle.dma_trace.specs.Explained.{event_line}
use Rattle.dma_trace.proofs.copies.HappeningsText.push.Given as goal

abbrev pub invariant-loop-happening : goal.invariant-loop-happening
invariant-loop-happening l = record { text : l.out.items ≡ l.initial.out.items ++ flat_map event_line (take l.happening-index l.events) }
