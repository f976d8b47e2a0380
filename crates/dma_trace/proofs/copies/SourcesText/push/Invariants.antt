-- The lines of the first items are appended.
use Rattle.std.proofs.Common.{◌≡◌, ◌++◌, take}
use Rattle.std.specs.Prelude.{flat_map}
use Rattle.dma_trace.specs.Explained.{source_line}
use Rattle.dma_trace.proofs.copies.SourcesText.push.Given as goal

abbrev pub invariant-loop-item : goal.invariant-loop-item
invariant-loop-item l = record { text : l.out.items ≡ l.initial.out.items ++ flat_map source_line (take l.item-index l.items) }
