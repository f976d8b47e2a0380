use Rattle.dma_why.specs.Why.{channel_lines, circle_lines}
use Rattle.dma_why.proofs.WaitLemmas.{text_more}
use Rattle.dma_why.proofs.lines.push_explanation.Goals as goal

pub loop-ch-preserved : goal.loop-ch-preserved
loop-ch-preserved c = text_more (channel_lines c.args.engine.now.view) _ _ _ _ c.loop-ch.invariant c.in_ok-push_channel.ensures

pub loop-first-preserved : goal.loop-first-preserved
loop-first-preserved c =
    text_more (circle_lines c.in_ok-waits.waits.items c.channels-channels.result) _ _ _ _ c.loop-first.invariant
    (rw c.deref.ensures.value at c.in_ok-push_circle.ensures)
