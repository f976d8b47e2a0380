use Rattle.std.proofs.Common.{arith}
use Rattle.dma_engine.proofs.CallCases.{read_starved}
use Rattle.dma_engine.proofs.engine.Engine.read_kept.Goals as goal

pub returns-in_err-kept-clause-answer : goal.returns-in_err-kept-clause-answer
returns-in_err-kept-clause-answer c = grind (arith, read_starved)
