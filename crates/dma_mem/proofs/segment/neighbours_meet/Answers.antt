use Rattle.std.proofs.Common.{sym, arith}
use Rattle.dma_mem.proofs.{NeighboursMeet.none_overlap, NeighboursMeet.some_overlap}
use Rattle.dma_mem.proofs.segment.neighbours_meet.Goals as goal

pub returns-then-from-end : goal.returns-then-from-end
returns-then-from-end c = grind (arith, some_overlap)

pub returns : goal.returns
returns c = sym (none_overlap c.args.sorted.now (λ k h. c.loop-next.invariant k (omega (arith, h, c.loop-next-test.false))) c.requires.rising)
