-- The expect lines so far hold.
use Rattle.std.proofs.Common.{◌≡◌, ◌+◌, ◌≤◌, [], length}
use Rattle.std.specs.Str.Lines.{lines}
use Rattle.dma_seeds.specs.{Expect.after_lines, inner.Measured.pieces}
use Rattle.dma_seeds.proofs.expect.lines_verdict.Given as goal

abbrev pub invariant-loop-printed : goal.invariant-loop-printed
invariant-loop-printed l = record {
  counted : l.number + length l.rest ≤ length l.script;
  same : after_lines l.seed 0 (record { left = []; answers = pieces l.lengths l.text }) (lines l.script) ≡ after_lines l.seed l.number l.printed (lines l.rest);
}

abbrev pub decreases-loop-printed : goal.decreases-loop-printed
decreases-loop-printed l = length l.rest
