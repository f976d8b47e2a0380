use Rattle.std.proofs.Common.{arith}
use Rattle.std.proofs.lemmas.Bool.{le-ltb}
use Rattle.dma_mem.proofs.RangeSets.{meets_first, meets_none}
use Rattle.dma_mem.proofs.ordered.meets_by_search.Goals as goal

pub returns-then-first-ranges : goal.returns-then-first-ranges
returns-then-first-ranges c = grind (arith, meets_first)

pub returns-else-first-ranges : goal.returns-else-first-ranges
returns-else-first-ranges c = grind (arith, le-ltb, meets_none)
