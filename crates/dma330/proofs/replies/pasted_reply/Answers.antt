use Rattle.std.proofs.lemmas.Result.{IfOk-weaker}
use Rattle.dma_io.specs.Answer.{prints_of}
use Rattle.dma330.specs.Replies.{ProgramReplies}
use Rattle.std.proofs.Common.{ℕ, List, subst}
use Rattle.dma330.proofs.replies.pasted_reply.Goals as goal

pub returns : goal.returns
returns g c =
    let q = prints_of c.in_ok-replied.replied in
    let of_bytes : List ℕ → Type 0 = λ bytes. ProgramReplies c.args.request.now c.args.ram.now bytes q in
    let replies = subst of_bytes c.deref.ensures.value c.in_ok-replied.ensures in
    IfOk-weaker c.with_form.result _ _ (λ shown is. (q, replies, is)) c.with_form.ensures
