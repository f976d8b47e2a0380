use Rattle.std.proofs.Common.{[], ◌∷◌, ◌∙◌, List, ℕ, refl, subst}
use Rattle.dma_engine.specs.View.{View}
use Rattle.dma_io.specs.Command.{Answers}
use Rattle.dma_commands.specs.Run.{lines_answered, printed}
use Rattle.dma_commands.proofs.RunLemmas.{answers_memory}
use Rattle.dma_commands.proofs.run.RunCommand.answer.Goals as goal

pub returns-in_ok-engine-in-Ok : goal.returns-in_ok-engine-in-Ok
returns-in_ok-engine-in-Ok c =
    let script = c.in-Ok.script in
    let old = c.args.out.now.items in
    let room = c.reserve_for.new.out.items in
    let new = c.run_statements.new.out.items in
    let result = c.run_statements.result in
    record {
      printed = printed c.args.input.now;
      allowed = refl;
      answers = rw c.in-Ok.ensures.script
          (subst (λ (v : View). Answers (record { groups = [] ∷ lines_answered v script.statements; status = 0 }) result old new)
          (c.reserve_for.ensures.view ∙ c.in_ok-engine-in-Ok.ensures)
          (subst (λ (o : List ℕ). Answers (record { groups = [] ∷ lines_answered c.reserve_for.new.engine.view script.statements; status = 0 }) result o new)
          c.reserve_for.ensures.printed
          (answers_memory _ 0 result room new c.run_statements.ensures)));
    }
