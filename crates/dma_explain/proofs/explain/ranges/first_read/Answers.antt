use Rattle.std.proofs.Common.{◌+◌, ap, arith, inl, inr}
use Rattle.std.proofs.lemmas.Bool.{cases_lt}
use Rattle.dma_mem.specs.{declared.segment.Segment.Segment}
use Rattle.dma_mem.proofs.SharedPlaces.{in_range, range_in}
use Rattle.dma_explain.proofs.explain.ranges.first_read.Goals as goal

pub returns-then-clear-item-clause-least : goal.returns-then-clear-item-clause-least
returns-then-clear-item-clause-least c = λ a h.
    let addr = ap (λ (s : Segment). s.addr) c.segment.ensures in
    let within = range_in c.args.item.addr c.args.item.len a h.0 in
    absurd (c.clear_of_ordered-clear.ensures.clear a (omega (arith, within, addr)) (omega (arith, within, addr, c.if-clear-item.true)) h.1)

pub returns-clause-least : goal.returns-clause-least
returns-clause-least c = λ a h.
    let addr = ap (λ (s : Segment). s.addr) c.segment.ensures in
    let within = range_in c.args.item.addr c.args.item.len a h.0 in
    elim (cases_lt a (c.args.item.addr + c.clear_of_ordered-clear.result)) [
      | inl below ↦ absurd (c.clear_of_ordered-clear.ensures.clear a (omega (arith, within, addr)) (omega (arith, below, addr)) h.1)
      | inr from ↦ from
    ]

pub returns-clause-found : goal.returns-clause-found
returns-clause-found c = grind (arith, in_range)
