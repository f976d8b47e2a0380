use Rattle.std.proofs.Common.{◌∙◌, ap}
use Rattle.dma_chan.specs.Exec.{fault_in}
use Rattle.dma_engine.specs.{inner.Due.IsNext, inner.Inside.parts_of}
use Rattle.dma_engine.proofs.{Instructions.the_step, Moves.fails_next, Moves.moves_next, StepCases.due, StepCases.due_ahead, StepCases.goes_on}
use Rattle.dma_engine.proofs.StepCases.{Due}
use Rattle.dma_engine.proofs.engine.Engine.next_failure.Goals.{After-index-queue}
use Rattle.dma_engine.proofs.engine.Engine.next_failure.Goals as goal

-- the instruction is due
it : (c : After-index-queue) → Due (parts_of c.self.inside) c.args.ch c.index-queue.result.now (IsNext c.args.next)
it c = due (IsNext c.args.next) c.self.invariant c.from.ensures c.index-queue.ensures (rw (← c.self.view_is) at c.requires.due)

pub failing_at-requires : goal.failing_at-requires
failing_at-requires c = due_ahead c.args.next (it (goal.at.failing_at-requires c).After-index-queue)

pub returns-in-Some-clause-fails : goal.returns-in-Some-clause-fails
returns-in-Some-clause-fails c =
    let p = parts_of c.self.inside in
    let asked = rw (← c.self.view_is) at c.requires.due in
    let d = goes_on c.args.next c.requires.other (it (goal.at.returns-in-Some-clause-fails c).After-index-queue) in
    let fails = fails_next c.in-Some.kind d (c.in-Some.ensures p.events ∙ ap fault_in (the_step d.it).turn) in
    rw (c.failure_of.ensures, ← c.self.view_is) (asked.0, asked.1, asked.2, rw d.it.runs_is fails)

pub returns-in-None-clause-moves : goal.returns-in-None-clause-moves
returns-in-None-clause-moves c =
    let p = parts_of c.self.inside in
    let d = goes_on c.args.next c.requires.other (it (goal.at.returns-in-None-clause-moves c).After-index-queue) in
    λ _. rw (← c.self.view_is) (moves_next d (c.in-None.ensures p.events ∙ ap fault_in (the_step d.it).turn))
