use Rattle.std.proofs.Common.{arith}
use Rattle.dma_work.proofs.Desks.{kept_step}
use Rattle.dma_work.proofs.desk.Desk.step.Goals as goal

pub count-requires-clause-steps : goal.count-requires-clause-steps
count-requires-clause-steps g c = grind (arith, kept_step, arith)

pub count-requires-clause-finished : goal.count-requires-clause-finished
count-requires-clause-finished g c =
    let k = kept_step c.self.invariant c.step-answer.new.engine c.step-answer.new.self c.args.ch c.step-answer.result c.step-answer.ensures.answer
    c.step-answer.ensures.published in
    omega (arith, k.counts.finished, c.facts.ensures.finished)

pub invariant_of-self : goal.invariant_of-self
invariant_of-self g c =
    rw c.count.ensures (kept_step c.self.invariant c.step-answer.new.engine c.step-answer.new.self c.args.ch c.step-answer.result c.step-answer.ensures.answer
    c.step-answer.ensures.published)
