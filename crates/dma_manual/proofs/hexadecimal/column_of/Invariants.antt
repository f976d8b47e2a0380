use Rattle.std.proofs.Common.{◌≡◌, ◌≤◌, ◌+◌, take, fold}
use Rattle.dma_manual.specs.Hexadecimal.{column_after}
use Rattle.dma_manual.proofs.hexadecimal.column_of.Given as goal

abbrev pub invariant-loop-byte : goal.invariant-loop-byte
invariant-loop-byte l = (l.column ≡ fold column_after 1 (take l.byte-index (take l.at l.text))) × (l.column ≤ l.byte-index + 1)
