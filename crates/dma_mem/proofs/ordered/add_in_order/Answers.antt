use Rattle.std.proofs.Common.{arith}
use Rattle.dma_mem.proofs.RangeReplaced.{Found, added, adds_inner}
use Rattle.dma_mem.proofs.{ordered.add_in_order.Goals.After-ended_by-past}
use Rattle.dma_mem.proofs.ordered.add_in_order.Goals as goal

found : (c : After-ended_by-past) → Found c.args.ranges.now.items c.begun_below-first.result c.ended_by-past.result c.args.segment
found c = grind arith

pub returns-then-past-first-clause-ok : goal.returns-then-past-first-clause-ok
returns-then-past-first-clause-ok c =
    adds_inner c.args.ranges.now.items _ _ c.args.segment (omega (arith, c.if-past-first.true))
    (found (goal.at.returns-then-past-first-clause-ok c).After-ended_by-past)

pub returns : goal.returns
returns c =
    let is = added c.replace.result c.args.ranges.now.items c.replace.new.ranges.items _ _ c.args.segment c.requires (omega (arith, c.if-segment-eq0.false))
    c.if-past-first.false (found (goal.at.returns c).After-ended_by-past) c.replace.ensures.ok c.replace.ensures.err in
    record { ordered = is.0; ok = is.1; err = c.replace.ensures.err }
