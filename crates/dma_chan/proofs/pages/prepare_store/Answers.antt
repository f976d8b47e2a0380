use Rattle.std.proofs.Common.{◌+◌, ◌≤◌, ◌∙◌, ap, sym, arith, refl, length, subst}
use Rattle.std.specs.List.{Contains}
use Rattle.dma_chan.specs.{Bursts.touched, Ready.none_missing}
use Rattle.dma_chan.proofs.ReadyLaws.{part_all, part_short, part_touched, pages_all}
use Rattle.dma_chan.proofs.pages.prepare_store.Goals as goal

pub returns-then-is_on_page-clause-ok : goal.returns-then-is_on_page-clause-ok
returns-then-is_on_page-clause-ok g c = grind (arith, pages_all)

pub returns-in-Ok-clause-ok : goal.returns-in-Ok-clause-ok
returns-in-Ok-clause-ok g c = grind (arith, part_all)

pub returns-in-Err-clause-short : goal.returns-in-Err-clause-short
returns-in-Err-clause-short g c =
    let m = g.M.Ram.paged c.prepare.new.self in
    let b = c.destination_burst.result in
    let part = c.part_below-part.ensures in
    let below : c.part_below-part.result.addr + c.part_below-part.result.len ≤ length (g.M.Ram.paged c.args.memory.now).image =
    omega (arith, part.addr, part.len) in
    let image = c.prepare.ensures.image in
    let addr = part.addr ∙ rw (c.span-span.ensures.addr, image) refl in
    let len = part.len ∙ rw (c.span-span.ensures.len, c.span-span.ensures.addr, image) refl in
    ap (λ b. none_missing m (touched b)) (sym c.destination_burst.ensures.value)
    ∙ part_short m b c.part_below-part.result.addr c.part_below-part.result.len c.destination_burst.ensures.some.some.beats addr len
    (rw c.in-Err.is at c.prepare.ensures.short below)

pub returns-in-Ok-clause-others : goal.returns-in-Ok-clause-others
returns-in-Ok-clause-others g c = λ p off.
    let b = c.destination_burst.result in
    let part = c.part_below-part.ensures in
    let addr = part.addr ∙ rw c.span-span.ensures.addr refl in
    let len = part.len ∙ rw (c.span-span.ensures.len, c.span-span.ensures.addr) refl in
    c.prepare.ensures.others p
    (λ a here. off a (subst (λ b. Contains (touched b) a) c.destination_burst.ensures.value
    (part_touched b (length (g.M.Ram.paged c.args.memory.now).image) c.part_below-part.result.addr c.part_below-part.result.len a
    c.destination_burst.ensures.some.some.beats addr len here)))

pub returns-in-Err-clause-others : goal.returns-in-Err-clause-others
returns-in-Err-clause-others g c = λ p off.
    let b = c.destination_burst.result in
    let part = c.part_below-part.ensures in
    let addr = part.addr ∙ rw c.span-span.ensures.addr refl in
    let len = part.len ∙ rw (c.span-span.ensures.len, c.span-span.ensures.addr) refl in
    c.prepare.ensures.others p
    (λ a here. off a (subst (λ b. Contains (touched b) a) c.destination_burst.ensures.value
    (part_touched b (length (g.M.Ram.paged c.args.memory.now).image) c.part_below-part.result.addr c.part_below-part.result.len a
    c.destination_burst.ensures.some.some.beats addr len here)))
