-- Reading the rest from here is reading the whole script.
use Rattle.std.proofs.Common.{◌≡◌, ◌+◌, ◌≤◌, length, true}
use Rattle.std.specs.{List.All, Str.Lines.lines}
use Rattle.dma_script.specs.Lines.{after_script, after_lines}
use Rattle.dma_script.proofs.PlainLines.{IsPlainLine}
use Rattle.dma_script.proofs.lines.read_script.Given as goal

abbrev pub invariant-loop-rest : goal.invariant-loop-rest
invariant-loop-rest g l = record {
  counted : l.number + length l.rest ≤ length l.input;
  plain : l.plain ≡ true → All IsPlainLine (lines l.rest);
  reads : after_lines g.S.Script.step l.number (g.S.Script.view l.script) (lines l.rest) ≡ after_script g.S.Script.step (g.S.Script.view l.initial.script)
      l.input;
}

abbrev pub decreases-loop-rest : goal.decreases-loop-rest
decreases-loop-rest g l = length l.rest
