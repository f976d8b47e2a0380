use Rattle.std.proofs.Common.{arith}
use Rattle.dma_engine.proofs.Boards.{counts_at}
use Rattle.dma_engine.proofs.engine.Engine.used_at_base.Goals as goal

pub returns : goal.returns
returns c = grind (arith, counts_at)
