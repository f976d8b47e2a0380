use Rattle.std.proofs.Common.{◌∙◌, ℤ, ap, subst, sym, w32, to_z, of_z}
use Rattle.std.proofs.lemmas.Int.{to_z-of_z}
use Rattle.dma_ffi.specs.{Codes.event_of, inner.Loads.LoadsMade}
use Rattle.dma_mem.specs.Places.{copying}
use Rattle.dma_ffi.proofs.Transfers.{is_made, loads_transfer}
use Rattle.dma_ffi.proofs.channel_calls.dma330_channel_load_copy.Goals as goal

pub returns : goal.returns
returns c =
    let held = rw c.in-Some.is at c.get_mut.ensures.value in
    let m = c.in-Some.marked.now in
    let d = c.load.new.channel in
    let transfer = copying c.args.src.now c.args.dst.now in
    let made = c.new-made in
    let code = c.load.result in
    let wait = c.event_of.ensures ∙ ap event_of (to_z-of_z w32 c.args.wait c.ranges.wait) in
    let signal = c.event_of-2.ensures ∙ ap event_of (to_z-of_z w32 c.args.signal c.ranges.signal) in
    loads_transfer c.args.kept.now.channel.value (to_z w32 (of_z w32 code)) m d (transfer (event_of c.args.wait) (event_of c.args.signal)) made.result
    (is_made transfer made.result wait signal made.ensures.ok made.ensures.accepted made.ensures.err) held
    (subst (λ (z : ℤ). LoadsMade made.result m.channel z d) (sym (to_z-of_z w32 code (record { sfits = c.load.type_inv }))) c.load.ensures)
