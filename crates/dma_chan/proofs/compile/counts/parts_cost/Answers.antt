use Rattle.std.proofs.Common.{arith}
use Rattle.dma_chan.specs.Compiled.{parts}
use Rattle.dma_chan.proofs.TreeCosts.{cost_counted}
use Rattle.dma_chan.proofs.compile.counts.parts_cost.Goals as goal

pub returns-clause-value : goal.returns-clause-value
unfolding parts
returns-clause-value c = grind (arith, cost_counted)
