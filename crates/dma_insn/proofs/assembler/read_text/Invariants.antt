-- Reading the rest after the program so far gives the result of reading the whole text.
use Rattle.std.proofs.Common.{◌≡◌, ◌+◌, ◌≤◌, length}
use Rattle.dma_text.specs.Lines.{text_lines}
use Rattle.dma_insn.specs.LineReading.{after_lines, assembled}
use Rattle.dma_insn.proofs.assembler.read_text.Given as goal

abbrev pub invariant-loop-rest : goal.invariant-loop-rest
invariant-loop-rest l = record {
  counted : l.number + length l.rest ≤ length l.text;
  reads : after_lines l.number l.program.items (text_lines l.rest) ≡ assembled l.text;
}

abbrev pub decreases-loop-rest : goal.decreases-loop-rest
decreases-loop-rest l = length l.rest
