use Rattle.std.proofs.Common.{refl}
use Rattle.dma_commands.proofs.RunLemmas.{answers_some}
use Rattle.dma_commands.proofs.run.run_statements.Goals as goal

pub returns : goal.returns
returns c =
    let all = rw c.in_ok-ran.was at c.execute_all-ran.ensures.ok in
    record {
      text = all.text;
      status = refl;
      refused = tt;
    }

pub returns-in_err-ran : goal.returns-in_err-ran
returns-in_err-ran c =
    let some = rw c.in_err-ran.was at c.execute_all-ran.ensures.err in
    answers_some _ c.from_residual.result _ _ c.from_residual.ensures.0 some
