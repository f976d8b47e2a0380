use Rattle.dma_commands.proofs.StepLemmas.{cut_first, took_more}
use Rattle.dma_commands.proofs.run.steps.StepLines.take_all.Goals as goal

pub loop-left-preserved : goal.loop-left-preserved
loop-left-preserved c =
    let old = c.args.self.now in
    let mid = c.loop-left.self in
    let new = c.take.new.self in
    record {
      took = took_more c.args.ch c.args.replies.now c.loop-left.left.now _ old.lines.items old.last.items old.count mid.lines.items mid.last.items mid.count
          new.lines.items new.last.items new.count c.equal_replies-many.result c.first-item.result c.loop-left.invariant.took
          (cut_first c.loop-left.left.now c.first-item.result c.first-item.is c.in-len1-up.len_at_least) c.equal_replies-many.ensures.few
          c.equal_replies-many.ensures.equal (c.in_ok-take.ensures.memory c.equal_replies-many.ensures.some) c.in_ok-take.ensures.count
          c.in_ok-take.ensures.text;
    }
