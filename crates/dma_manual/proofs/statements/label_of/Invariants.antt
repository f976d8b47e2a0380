-- None of the labels so far has the name.
use Rattle.std.proofs.Common.{◌≡◌, drop, map}
use Rattle.dma_manual.specs.Statements.{label_of, label_view}
use Rattle.dma_manual.proofs.statements.label_of.Given as goal

abbrev pub invariant-loop-label : goal.invariant-loop-label
invariant-loop-label l = label_of (map label_view (drop l.label-index l.labels)) l.name ≡ label_of (map label_view l.labels) l.name
