-- Each line so far is skipped.
use Rattle.std.proofs.Common.{◌≡◌, ◌+◌, ◌≤◌, length, not}
use Rattle.std.specs.{List.position_or_len, Str.Lines.lines}
use Rattle.dma_script.specs.{Words.words_of, Lines.first_number, Lines.is_skipped}
use Rattle.dma_script.proofs.lines.first_number.Given as goal

abbrev pub invariant-loop-rest : goal.invariant-loop-rest
invariant-loop-rest l = record {
  counted : l.number + length l.rest ≤ length l.input + 1;
  first : l.number + position_or_len (λ line. not (is_skipped (words_of line))) (lines l.rest) ≡ first_number l.input;
}

abbrev pub decreases-loop-rest : goal.decreases-loop-rest
decreases-loop-rest l = length l.rest
