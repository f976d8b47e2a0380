use Rattle.std.proofs.lemmas.Result.{IfOk-weaker}
use Rattle.dma_io.specs.Answer.{prints_of}
use Rattle.dma330.proofs.replies.answer.Goals as goal

pub returns : goal.returns
returns g c =
    IfOk-weaker c.under_name.result _ _
    (λ shown under. (prints_of c.in_ok-replied.replied, c.in_ok-replied.ensures, under)) c.under_name.ensures
