use Rattle.std.proofs.Common.{rules}
use Rattle.std.proofs.lemmas.Result.{IfOk-weaker}
use Rattle.dma_script.specs.Statements.{IsWithin}
use Rattle.dma_script.proofs.Within.{IsBefore, IsNoSubmit, given_holds, run_script_within}
use Rattle.dma_script.proofs.statements.read_run_script.Goals as goal

pub returns-clause-within : goal.returns-clause-within
returns-clause-within c =
    given_holds IsWithin _ _ (search rules) (IfOk-weaker _ (IsBefore IsNoSubmit) IsWithin (λ script is. is.0) (run_script_within c.args.input.now))
