-- What replaces the lines so far is appended.
use Rattle.std.proofs.Common.{◌≡◌, ◌++◌, length}
use Rattle.dma_seeds.specs.Script.{text_with}
use Rattle.dma_seeds.proofs.script.push_lines.Given as goal

abbrev pub invariant-loop-rest : goal.invariant-loop-rest
invariant-loop-rest l =
    l.initial.out.items ++ text_with l.turns l.fn.script ≡ l.out.items ++ text_with l.turns l.rest

abbrev pub decreases-loop-rest : goal.decreases-loop-rest
decreases-loop-rest l = length l.rest
