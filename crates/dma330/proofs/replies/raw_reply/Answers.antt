use Rattle.std.proofs.Common.{◌∙◌, ap}
use Rattle.std.proofs.lemmas.Result.{IfOk-weaker}
use Rattle.dma_io.specs.Answer.{prints_of, with_note}
use Rattle.dma330.proofs.replies.raw_reply.Goals as goal

pub returns : goal.returns
returns g c =
    let q = prints_of c.in_ok-replied.replied in
    let note = ap (with_note q) (rw c.takes_program.ensures at c.hint-note.ensures) in
    IfOk-weaker c.with_note.result _ _ (λ shown is. (q, c.in_ok-replied.ensures, is ∙ note)) c.with_note.ensures
