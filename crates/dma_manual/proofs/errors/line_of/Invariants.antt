-- The wanted line is that of the rest.
use Rattle.std.proofs.Common.{◌≡◌, length}
use Rattle.dma_text.specs.Lines.{text_lines}
use Rattle.dma_manual.specs.Errors.{line_of}
use Rattle.dma_manual.proofs.errors.line_of.Given as goal

abbrev pub invariant-loop-rest : goal.invariant-loop-rest
invariant-loop-rest l = line_of (text_lines l.rest) l.left ≡ line_of (text_lines l.text) l.number

abbrev pub decreases-loop-rest : goal.decreases-loop-rest
decreases-loop-rest l = length l.rest
