use Rattle.std.proofs.Common.{List, subst, sym}
use Rattle.dma_mem.specs.declared.call.Call.{Call}
use Rattle.dma_engine.specs.inner.Runs.{AddsAnswers}
use Rattle.dma_engine.proofs.Runs.{row_taken}
use Rattle.dma_engine.proofs.run.answer_some.Goals as goal

pub returns-then-most-gt1-clause-answers : goal.returns-then-most-gt1-clause-answers
returns-then-most-gt1-clause-answers c =
    let taken = row_taken c.answer_steps.result c.steps_ahead-most.result c.in-Step.ch c.args.calls.now c.answer_steps.ensures.few
    c.steps_ahead-most.ensures.steps in
    subst (λ (cs : List Call). AddsAnswers c.args.engine.now.view cs c.answer_steps.new.engine.view c.args.replies.now.items c.answer_steps.new.replies.items)
    (sym taken) c.answer_steps.ensures.answers
