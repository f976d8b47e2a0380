use Rattle.std.proofs.Common.{◌∙◌, ap, refl, sym}
use Rattle.std.proofs.lemmas.Bool.{both_ways}
use Rattle.dma_insn.specs.ControlWord.{is_control}
use Rattle.dma_chan.proofs.SavedHeads.{head_fields}
use Rattle.dma_chan.proofs.save.head.registers_in.Goals as goal

pub returns-in_default-clause-read : goal.returns-in_default-clause-read
returns-in_default-clause-read c h rest b r e =
    let f = head_fields h rest c.args.save.now r e in
    absurd (both_ways (is_control h.registers.ccr) (sym (c.in_default.ensures.accepted ∙ ap is_control (c.u32_at.ensures ∙ f.ccr))) r.registers.control)

pub returns-clause-read : goal.returns-clause-read
returns-clause-read c h rest b r e =
    let f = head_fields h rest c.args.save.now r e in
    rw (c.u32_at-2.ensures, f.pc, c.u32_at-3.ensures, f.sar, c.u32_at-4.ensures, f.dar, f.lc0, f.lc1, c.in-Ok.ensures.ok, c.u32_at.ensures, f.ccr, ← b) refl
