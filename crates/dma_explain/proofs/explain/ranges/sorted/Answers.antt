use Rattle.std.proofs.Common.{arith}
use Rattle.std.proofs.lemmas.Grind.{common_steps}
use Rattle.dma_explain.proofs.explain.ranges.sorted.Goals as goal

pub returns : goal.returns
returns c = grind (arith, common_steps)

pub returns-in_err-sorted : goal.returns-in_err-sorted
returns-in_err-sorted c = grind (arith, common_steps)
