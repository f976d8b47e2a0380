use Rattle.std.proofs.Common.{◌∙◌, ◌<◌, ap, add-one, length, arith, List}
use Rattle.std.specs.Prelude.{slice_set}
use Rattle.dma_ffi.specs.{declared.explaining.DmaEvent.DmaEvent, Explaining.event_at}
use Rattle.dma_ffi.proofs.ProgramCalls.{set_next}
use Rattle.dma_ffi.proofs.explaining.events_out.Goals as goal

pub loop-n-preserved : goal.loop-n-preserved
loop-n-preserved c =
    let xs = c.args.happenings.now in
    let i = c.loop-n.n in
    let q = c.event_at.result in
    let less : i < length xs = omega (arith, c.loop-n-test.true, c.loop-n.auto.n-end) in
    rw add-one (ap (λ (l : List DmaEvent). slice_set l i q) c.loop-n.invariant
    ∙ set_next event_at xs c.args.out.now i _ q less c.requires c.event_at.ensures)
