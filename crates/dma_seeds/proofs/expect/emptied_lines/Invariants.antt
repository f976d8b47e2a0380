-- The lines so far, and those that are left.
use Rattle.std.proofs.Common.{◌≡◌, ◌++◌, length, map}
use Rattle.std.specs.Str.Lines.{lines}
use Rattle.dma_io.specs.Command.{text_of}
use Rattle.dma_seeds.specs.Expect.{emptied}
use Rattle.dma_seeds.proofs.expect.emptied_lines.Given as goal

abbrev pub invariant-loop-rest : goal.invariant-loop-rest
invariant-loop-rest l =
    text_of (map emptied (lines l.script)) ≡ l.text.items ++ text_of (map emptied (lines l.rest))

abbrev pub decreases-loop-rest : goal.decreases-loop-rest
decreases-loop-rest l = length l.rest
