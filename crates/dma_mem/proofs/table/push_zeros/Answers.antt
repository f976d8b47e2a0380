use Rattle.std.proofs.Common.{◌∙◌, arith, sym}
use Rattle.std.specs.Prelude.{vec_capacity, vec_len}
use Rattle.dma_mem.proofs.BlankChunks.{blank_is, blank_none, shown_blank, zeros_fill}
use Rattle.dma_mem.proofs.table.push_zeros.Goals as goal

pub returns-clause-bytes : goal.returns-clause-bytes
returns-clause-bytes c =
    let v = c.args.bytes.now in
    c.in-Ok.ensures.items
    ∙ zeros_fill 16384 (vec_len v) v.items (blank_none (vec_capacity v) v.items c.requires.blank) (omega arith)
    ∙ sym (shown_blank (vec_capacity v) v.items c.requires.blank ∙ blank_is)
