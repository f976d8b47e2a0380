-- The first line with the label is that of the rest.
use Rattle.std.proofs.Common.{◌≡◌, ◌+◌, ◌≤◌, length}
use Rattle.dma_text.specs.Lines.{text_lines}
use Rattle.dma_manual.specs.Errors.{line_with}
use Rattle.dma_manual.proofs.errors.line_with.Given as goal

abbrev pub invariant-loop-rest : goal.invariant-loop-rest
invariant-loop-rest l = record {
  counted : l.number + length l.rest ≤ length l.text;
  finds : line_with l.name l.number (text_lines l.rest) ≡ line_with l.name 0 (text_lines l.text);
}

abbrev pub decreases-loop-rest : goal.decreases-loop-rest
decreases-loop-rest l = length l.rest
