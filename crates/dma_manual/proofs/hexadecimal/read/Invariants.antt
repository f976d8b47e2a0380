-- The bytes so far and those of the rest are those of the text.
use Rattle.std.proofs.Common.{◌≡◌, drop}
use Rattle.dma_manual.proofs.HexadecimalLemmas.{followed}
use Rattle.dma_manual.specs.{Hexadecimal.read_from, declared.hexadecimal.Reading.TheVariants.Between}
use Rattle.dma_manual.proofs.hexadecimal.read.Given as goal

abbrev pub invariant-loop-at : goal.invariant-loop-at
invariant-loop-at l =
    followed l.bytes.items (read_from l.notation l.reading l.at (drop l.at l.text)) ≡ read_from l.notation Between 0 l.text
