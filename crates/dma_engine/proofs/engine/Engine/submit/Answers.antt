use Rattle.std.proofs.Common.{arith}
use Rattle.dma_engine.proofs.engine.Engine.submit.Goals as goal
use Rattle.dma_engine.proofs.CallCases.{submit_checked}

pub returns-in-Err-clause-answer : goal.returns-in-Err-clause-answer
returns-in-Err-clause-answer c = grind (arith, submit_checked)
