use Rattle.std.proofs.Common.{length}
use Rattle.dma_commands.proofs.StepLemmas.{Took}
use Rattle.dma_commands.proofs.run.steps.StepLines.take_all.Given as goal

abbrev pub invariant-loop-left : goal.invariant-loop-left
invariant-loop-left l =
    let old = l.initial.self in
    record { took : Took l.ch l.replies l.left old.lines.items old.last.items old.count l.self.lines.items l.self.last.items l.self.count }

abbrev pub decreases-loop-left : goal.decreases-loop-left
decreases-loop-left l = length l.left
