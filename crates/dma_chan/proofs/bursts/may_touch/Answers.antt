use Rattle.std.proofs.Common.{arith}
use Rattle.dma_mem.proofs.GapMarks.{barred_gaps}
use Rattle.dma_chan.specs.Bursts.{span_of}
use Rattle.dma_chan.proofs.BurstReach.{reaches_gap}
use Rattle.dma_chan.proofs.bursts.may_touch.Goals as goal

pub returns-then-clear-span-clause-exact : goal.returns-then-clear-span-clause-exact
returns-then-clear-span-clause-exact g c = grind (arith, reaches_gap)

pub returns-then-end-size-clause-lie : goal.returns-then-end-size-clause-lie
returns-then-end-size-clause-lie g c = λ hit. record {
  within = omega (arith, c.end.ensures, c.size.ensures.value, c.span-span.ensures);
  clear = barred_gaps c.args.kind (g.M.Ram.loan c.args.memory.now) c.args.burst.addr (span_of c.args.burst)
      (λ a low high. c.clear.ensures.none a (omega (arith, low, c.span-span.ensures.addr))
      (omega (arith, high, c.span-span.ensures.addr, c.span-span.ensures.len)));
}
