use Rattle.std.proofs.Common.{refl, sym}
use Rattle.dma_chan.proofs.SavedHeads.{flag_back}
use Rattle.dma_device.proofs.SavedDevices.{head_fields}
use Rattle.dma_device.proofs.save.head.Head.read.Goals as goal

pub returns-clause-same : goal.returns-clause-same
returns-clause-same c h rest ranges config e =
    let f = head_fields h rest c.args.bytes.now ranges e in
    rw (sym config, f.is_faulting, flag_back h.manager.is_faulting, c.u32_at.ensures, f.fault, c.u32_at-2.ensures, f.events)
    (rw (c.u32_at-3.ensures, f.interrupts, c.u32_at-4.ensures, f.inten, c.u32_at-5.ensures, f.dbginst0, c.u32_at-6.ensures, f.dbginst1) refl)
