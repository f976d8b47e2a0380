-- The bytes before the place are spellings joined, and their text is written.
use Rattle.std.proofs.Common.{◌≤◌, ◌-◌, length}
use Rattle.dma_insn.proofs.Fronts.{WrittenFront}
use Rattle.dma_insn.proofs.disassembler.write_all.Given as goal

abbrev pub invariant-loop-offset : goal.invariant-loop-offset
invariant-loop-offset l = record {
  within : l.offset ≤ length l.bytes;
  front : WrittenFront l.bytes l.offset l.text.items;
}

abbrev pub decreases-loop-offset : goal.decreases-loop-offset
decreases-loop-offset l = length l.bytes - l.offset
