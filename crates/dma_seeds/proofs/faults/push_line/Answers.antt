use Rattle.std.proofs.Common.{arith, length-take}
use Rattle.dma_text.proofs.Begun.{begins_more}
use Rattle.dma_seeds.proofs.faults.push_line.Goals as goal

pub slice_bounds-push_shown-end : goal.slice_bounds-push_shown-end
slice_bounds-push_shown-end c = omega (arith, length-take 60 c.args.line.now)

pub returns-clause-begins : goal.returns-clause-begins
returns-clause-begins c = begins_more _ _ _ c.in_ok-push_shown-2.ensures.begins c.push-2.ensures.begins
