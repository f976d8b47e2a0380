use Rattle.std.proofs.Common.{arith}
use Rattle.dma_explain.proofs.Items.{first_item, run_added, run_grown}
use Rattle.dma_explain.proofs.explain.ranges.push_run.Goals as goal
use Rattle.dma_explain.proofs.explain.ranges.push_run.Goals.{then-n-gt0+in_default, else-n-gt0}

pub returns-in-Some : goal.returns-in-Some
returns-in-Some c = grind (arith, run_grown)

pub returns : goal.returns
returns c = grind (arith, run_added, else-n-gt0, first_item)
