-- The lines so far and those of the rest give what all lines give.
use Rattle.std.proofs.Common.{◌≡◌, ◌+◌, ◌≤◌, length}
use Rattle.dma_text.specs.Lines.{text_lines}
use Rattle.dma_manual.specs.Assembled.{draft_view, empty, take_lines}
use Rattle.dma_manual.proofs.assembler.draft_of.Given as goal

abbrev pub invariant-loop-rest : goal.invariant-loop-rest
invariant-loop-rest l = record {
  counted : l.number + length l.rest ≤ length l.text;
  reads : take_lines (draft_view l.draft) l.number (text_lines l.rest) ≡ take_lines empty 0 (text_lines l.text);
}

abbrev pub decreases-loop-rest : goal.decreases-loop-rest
decreases-loop-rest l = length l.rest
