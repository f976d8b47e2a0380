-- No line so far is an expect line.
use Rattle.std.proofs.Common.{◌≡◌, length}
use Rattle.std.specs.{Prelude.is_some, List.list_any, Str.Lines.lines}
use Rattle.dma_script.specs.Words.{words_of}
use Rattle.dma_seeds.specs.Expect.{expected_in, has_expects}
use Rattle.dma_seeds.proofs.expect.has_expects.Given as goal

abbrev pub invariant-loop-rest : goal.invariant-loop-rest
invariant-loop-rest l =
    has_expects l.script ≡ list_any (λ line. is_some (expected_in (words_of line))) (lines l.rest)

abbrev pub decreases-loop-rest : goal.decreases-loop-rest
decreases-loop-rest l = length l.rest
