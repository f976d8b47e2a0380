use Rattle.std.proofs.Common.{arith}
use Rattle.std.proofs.{lemmas.Fmt.decimal_digit, lemmas.Result.on_ok_weaker}
use Rattle.dma_commands.proofs.run.steps.print_nothing.Goals as goal

pub returns-clause-ok : goal.returns-clause-ok
returns-clause-ok c = grind (arith, on_ok_weaker, decimal_digit)
