-- The line is the one behind `before` lines of the rest.
use Rattle.std.proofs.Common.{◌≡◌, ◌-◌, [], length}
use Rattle.std.specs.{Prelude.slice_index_or, Str.Lines.lines}
use Rattle.dma_seeds.proofs.faults.line_at.Given as goal

abbrev pub invariant-loop-rest : goal.invariant-loop-rest
invariant-loop-rest l =
    slice_index_or (lines l.script) (l.fn.number - 1) [] ≡ slice_index_or (lines l.rest) l.before []

abbrev pub decreases-loop-rest : goal.decreases-loop-rest
decreases-loop-rest l = length l.rest
