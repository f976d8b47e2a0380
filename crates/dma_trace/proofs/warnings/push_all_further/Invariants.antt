-- The lines of the first warnings are appended.
use Rattle.std.proofs.Common.{◌≡◌, ◌++◌, take}
use Rattle.std.specs.Prelude.{flat_map}
use Rattle.dma_trace.specs.Warnings.{further_line}
use Rattle.dma_trace.proofs.warnings.push_all_further.Given as goal

abbrev pub invariant-loop-warning : goal.invariant-loop-warning
invariant-loop-warning l = record { text : l.out.items ≡ l.initial.out.items ++ flat_map further_line (take l.warning-index l.warnings) }
