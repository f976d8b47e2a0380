use Rattle.std.proofs.Common.{subst, arith}
use Rattle.dma_mem.proofs.RangeSets.{EndBy, clear_before, clear_past, next_in}
use Rattle.dma_mem.proofs.ordered.clear_of_ordered.Goals as goal

pub returns-then-first-ranges-clause-clear : goal.returns-then-first-ranges-clause-clear
returns-then-first-ranges-clause-clear c =
    let first = subst (λ end. EndBy end c.args.ranges.now c.ended_by-first.result) c.from.ensures c.ended_by-first.ensures.first in
    clear_past c.args.ranges.now _ c.args.segment.addr _ first (omega (arith, c.if-first-ranges.true))

pub returns-clause-clear : goal.returns-clause-clear
returns-clause-clear c =
    let first = subst (λ end. EndBy end c.args.ranges.now c.ended_by-first.result) c.from.ensures c.ended_by-first.ensures.first in
    clear_before c.args.ranges.now _ c.args.segment.addr _ c.requires first (omega (arith, c.if-first-ranges.false))
    (omega (arith, c.saturating_sub.ensures, c.min.ensures))

pub returns-clause-next : goal.returns-clause-next
returns-clause-next c = λ less.
    let first = subst (λ end. EndBy end c.args.ranges.now c.ended_by-first.result) c.from.ensures c.ended_by-first.ensures.first in
    next_in c.args.ranges.now _ c.args.segment.addr c.min.result c.requires first (omega (arith, c.if-first-ranges.false))
    (omega (arith, less, c.saturating_sub.ensures, c.min.ensures))
