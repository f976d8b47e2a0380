use Rattle.std.proofs.Common.{◌∙◌, ap, length, sym}
use Rattle.std.specs.Prelude.{vec_capacity}
use Rattle.dma_mem.proofs.BlankChunks.{blank_is, length_blank, shown_blank}
use Rattle.dma_mem.proofs.table.Chunk.as_slice.Goals as goal

pub returns-then-is_blank-clause-bytes : goal.returns-then-is_blank-clause-bytes
returns-then-is_blank-clause-bytes c =
    sym blank_is ∙ sym (shown_blank (vec_capacity c.self.inside.bytes) c.self.inside.bytes.items (sym c.is_blank.ensures ∙ c.if-is_blank.true)) ∙ c.self.view_is

pub returns-then-is_blank-clause-whole : goal.returns-then-is_blank-clause-whole
returns-then-is_blank-clause-whole c = λ some.
    ap length (sym c.self.view_is ∙ shown_blank (vec_capacity c.self.inside.bytes) c.self.inside.bytes.items (sym c.is_blank.ensures ∙ c.if-is_blank.true))
    ∙ length_blank
