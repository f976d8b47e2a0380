use Rattle.std.proofs.lemmas.Result.{IfOk-weaker}
use Rattle.dma_commands.specs.Run.{most_copy_steps}
use Rattle.dma_commands.proofs.CopyLemmas.{advanced_all, advanced_end}
use Rattle.dma_commands.proofs.run.copies.step_to_end.Goals as goal

pub returns-in-Some : goal.returns-in-Some
returns-in-Some c =
    IfOk-weaker c.step_reply.result _ _
    (λ reply is. advanced_end c.args.engine.now.view c.advance.new.self.view most_copy_steps c.advance.result c.in-Some.last reply c.advance.ensures.answers
    c.in-Some.is is)
    c.step_reply.ensures.reply

pub returns-in-None : goal.returns-in-None
returns-in-None c =
    IfOk-weaker c.reply_to.result _ _
    (λ reply is. advanced_all c.args.engine.now.view c.advance.new.self.view c.reply_to.new.engine.view most_copy_steps c.advance.result reply
    c.advance.ensures.answers c.in-None.is is)
    c.reply_to.ensures.answer
