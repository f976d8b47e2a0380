-- The bytes before the place are spellings joined.
use Rattle.std.proofs.Common.{◌≤◌, ◌-◌, length}
use Rattle.dma_insn.proofs.Fronts.{Front}
use Rattle.dma_insn.proofs.disassembler.fault_of.Given as goal

abbrev pub invariant-loop-offset : goal.invariant-loop-offset
invariant-loop-offset l = record {
  within : l.offset ≤ length l.bytes;
  front : Front l.bytes l.offset;
}

abbrev pub decreases-loop-offset : goal.decreases-loop-offset
decreases-loop-offset l = length l.bytes - l.offset
