-- Continuing the value so far by the remaining digits gives the value of all digits.
use Rattle.std.proofs.Common.{◌≡◌, ◌≤◌, ◌^◌, drop}
use Rattle.dma_manual.specs.Operands.{digits_from}
use Rattle.dma_manual.proofs.operands.digits_in.Given as goal

abbrev pub invariant-loop-byte : goal.invariant-loop-byte
invariant-loop-byte l = record {
  reads : digits_from l.radix l.value (drop l.byte-index l.digits) ≡ digits_from l.radix 0 l.digits;
  small : l.value ≤ 2 ^ 32;
}
