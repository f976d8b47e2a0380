use Rattle.std.proofs.Common.{◌≡◌, refl, ◌∙◌}
use Rattle.dma_chan.proofs.SavedHeads.{head_fields, flag_back}
use Rattle.dma_chan.proofs.save.head.Head.read.Goals as goal

pub returns-clause-read : goal.returns-clause-read
returns-clause-read c h rest b r e =
    let f = head_fields h rest c.args.save.now r e in
    let some = c.in-Some.ensures.read h rest b r e in
    let registers : c.in-Some.registers ≡ h.registers = cc some in
    let cost = c.cost_of.ensures h.cost f.has_cost (c.u32_at-2.ensures ∙ f.cost) in
    rw (
      registers,
      c.u32_at.ensures,
      f.taken,
      c.u64_at.ensures,
      f.stored,
      f.is_loaded,
      flag_back h.is_loaded,
      cost,
      c.u16_at.ensures,
      f.buffer_len,
      c.u16_at-2.ensures,
      f.program_len,
    ) refl
