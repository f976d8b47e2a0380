-- Continuing the value so far by the remaining digits gives the value of all digits; the value has as many digits as
-- were read.
use Rattle.std.proofs.Common.{◌≡◌, ◌<◌, ◌^◌, drop, length}
use Rattle.dma_insn.specs.LineReading.{hex_from}
use Rattle.dma_insn.proofs.line.hex_value.Given as goal

abbrev pub invariant-loop-byte : goal.invariant-loop-byte
invariant-loop-byte l = record {
  reads : hex_from l.value (drop l.byte-index l.digits) ≡ hex_from 0 l.digits;
  small : l.value < 16 ^ l.byte-index;
  eight : length l.digits ≡ 8;
}
