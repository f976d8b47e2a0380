use Rattle.std.proofs.Common.{◌∙◌, ℤ, ap, subst, sym, w32, to_z, of_z}
use Rattle.std.proofs.lemmas.Int.{to_z-of_z}
use Rattle.dma_ffi.specs.{Codes.event_of, inner.Submits.Submits}
use Rattle.dma_mem.specs.Places.{copying}
use Rattle.dma_ffi.proofs.{Returns.returns_submit, Transfers.is_made}
use Rattle.dma_ffi.proofs.controller_calls.dma330_submit.Goals as goal

pub returns : goal.returns
returns c =
    let held = rw c.in-Some.is at c.get_mut.ensures.value in
    let e = c.in-Some.engine.now in
    let e' = c.submit.new.engine in
    let before = c.args.cookie.now in
    let after = c.submit.new.cookie in
    let transfer = copying c.args.src.now c.args.dst.now in
    let made = c.new-made in
    let code = c.submit.result in
    let wait = c.event_of.ensures ∙ ap event_of (to_z-of_z w32 c.args.wait c.ranges.wait) in
    let signal = c.event_of-2.ensures ∙ ap event_of (to_z-of_z w32 c.args.signal c.ranges.signal) in
    returns_submit c.args.controller.now.engine.value (to_z w32 (of_z w32 code)) after e e' before c.args.ch
    (transfer (event_of c.args.wait) (event_of c.args.signal)) made.result
    (is_made transfer made.result wait signal made.ensures.ok made.ensures.accepted made.ensures.err) held
    (subst (λ (z : ℤ). Submits e.view c.args.ch made.result z before after e'.view) (sym (to_z-of_z w32 code (record { sfits = c.submit.type_inv })))
    c.submit.ensures)
