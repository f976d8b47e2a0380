use Rattle.std.proofs.Common.{arith}
use Rattle.std.proofs.lemmas.Fmt.{decimal_digit}
use Rattle.dma_text.proofs.Begun.{begins_same, begins_appended}
use Rattle.dma_text.proofs.text.U64Text.push.Goals as goal

pub returns-clause-begins : goal.returns-clause-begins
returns-clause-begins c = grind (arith, begins_same, begins_appended)

pub returns-in_err-push-clause-begins : goal.returns-in_err-push-clause-begins
returns-in_err-push-clause-begins c = grind (arith, begins_same, begins_appended)

pub returns-then-number-lt10-clause-begins : goal.returns-then-number-lt10-clause-begins
returns-then-number-lt10-clause-begins c = grind (arith, begins_appended)

pub returns-then-number-lt10-clause-ok : goal.returns-then-number-lt10-clause-ok
returns-then-number-lt10-clause-ok c = grind (arith, decimal_digit)
