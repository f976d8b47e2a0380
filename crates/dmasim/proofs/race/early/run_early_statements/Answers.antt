use Rattle.std.specs.Prelude.{Result, OnOk, OnErr}
use Rattle.std.proofs.lemmas.Result.{on_ok_weaker, on_err_weaker}
use Rattle.dmasim.proofs.RaceLemmas.{all_early, first_early}
use Rattle.dmasim.proofs.race.early.run_early_statements.Goals as goal

-- the weakening laws with the fact first, so that its type is known before that of the function
after_ok : {T E P Q : Type 0} → (r : Result T E) → OnOk r P → (P → Q) → OnOk r Q
after_ok r fact f = on_ok_weaker r f fact

after_err : {T E P Q : Type 0} → (r : Result T E) → OnErr r P → (P → Q) → OnErr r Q
after_err r fact f = on_err_weaker r f fact

pub returns-clause-ok : goal.returns-clause-ok
returns-clause-ok g c = after_ok c.run-answer.result c.run-answer.ensures.ok (λ done. all_early (λ lines. lines.desk.engine.view) _ _ _ _ _ done)

pub returns-clause-err : goal.returns-clause-err
returns-clause-err g c =
    after_err c.run-answer.result c.run-answer.ensures.err (λ stop. first_early (λ lines. lines.desk.engine.view) _ _ _ _ _ _ stop)
