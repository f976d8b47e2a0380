-- The bytes so far and those of the rest are those of the text.
use Rattle.std.proofs.Common.{◌≡◌, drop}
use Rattle.dma_manual.specs.Pasted.{read_as, read_from}
use Rattle.dma_manual.proofs.pasted.read_as.Given as goal

abbrev pub invariant-loop-at : goal.invariant-loop-at
invariant-loop-at l = read_from l.form l.scan l.bytes.items l.at (drop l.at l.text) ≡ read_as l.form l.text
