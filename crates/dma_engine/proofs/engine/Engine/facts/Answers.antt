use Rattle.std.proofs.Common.{arith}
use Rattle.dma_engine.proofs.CookieCounts.{finished_bounded}
use Rattle.dma_engine.proofs.engine.Engine.facts.Goals as goal

pub returns-clause-finished : goal.returns-clause-finished
returns-clause-finished c = grind (arith, finished_bounded)
