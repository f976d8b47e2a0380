use Rattle.std.proofs.Common.{◌∙◌, ℤ, ap, subst, sym, w32, to_z, of_z}
use Rattle.std.proofs.lemmas.Int.{to_z-of_z}
use Rattle.dma_mem.specs.Places.{copying}
use Rattle.dma_ffi.specs.{Codes.event_of, Explaining.any_bus, inner.Plans.PlansMade}
use Rattle.dma_ffi.proofs.Transfers.{is_made, plans_transfer}
use Rattle.dma_ffi.proofs.plans.dma330_plan.Goals as goal

pub returns : goal.returns
returns c =
    let transfer = copying c.args.src.now c.args.dst.now in
    let made = c.new-made in
    let code = c.plan.result in
    let wait = c.event_of.ensures ∙ ap event_of (to_z-of_z w32 c.args.wait c.ranges.wait) in
    let signal = c.event_of-2.ensures ∙ ap event_of (to_z-of_z w32 c.args.signal c.ranges.signal) in
    plans_transfer (transfer (event_of c.args.wait) (event_of c.args.signal)) c.in-Some.bus (any_bus c.args.bus) (to_z w32 (of_z w32 code)) c.args.out.now
    c.plan.new.out c.args.len.now c.plan.new.len made.result (is_made transfer made.result wait signal made.ensures.ok made.ensures.accepted made.ensures.err)
    (rw c.in-Some.is at c.any_bus.ensures)
    (subst (λ (z : ℤ). PlansMade made.result c.in-Some.bus z c.args.out.now c.plan.new.out c.args.len.now c.plan.new.len)
    (sym (to_z-of_z w32 code (record { sfits = c.plan.type_inv }))) c.plan.ensures)
