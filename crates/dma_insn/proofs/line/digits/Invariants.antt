-- Continuing the value so far by the remaining digits gives the value of all digits.
use Rattle.std.proofs.Common.{◌≡◌, drop}
use Rattle.dma_insn.specs.LineReading.{digits_from}
use Rattle.dma_insn.proofs.line.digits.Given as goal

abbrev pub invariant-loop-byte : goal.invariant-loop-byte
invariant-loop-byte l = digits_from l.value (drop l.byte-index l.word) ≡ digits_from 0 l.word
