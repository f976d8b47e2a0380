use Rattle.std.proofs.Common.{sym, arith}
use Rattle.std.proofs.lemmas.Bool.{cases_lt}
use Rattle.dma_mem.proofs.{NeighboursMeet.none_overlap, NeighboursMeet.some_overlap}
use Rattle.dma_explain.proofs.LowestPlaces.{lowest_begins}
use Rattle.dma_explain.proofs.explain.ranges.lowest_twice.Goals as goal

pub returns-then-from-end-clause-meets : goal.returns-then-from-end-clause-meets
returns-then-from-end-clause-meets c = grind (arith, some_overlap)

pub returns-then-from-end-clause-lowest : goal.returns-then-from-end-clause-lowest
returns-then-from-end-clause-lowest c = grind (arith, lowest_begins)

pub loop-next-preserved : goal.loop-next-preserved
loop-next-preserved c = grind (arith, cases_lt)

pub returns-clause-meets : goal.returns-clause-meets
returns-clause-meets c = sym (none_overlap c.args.sorted.now (λ k h. c.loop-next.invariant k (omega (arith, h, c.loop-next-test.false))) c.requires.rising)
