use Rattle.dma_why.specs.Waits.{waits_on}
use Rattle.dma_why.proofs.WaitLemmas.{items_more}
use Rattle.dma_why.proofs.waits.waits.Goals as goal

pub loop-ch-preserved : goal.loop-ch-preserved
loop-ch-preserved c = items_more (waits_on c.args.engine.now.view) _ _ _ c.loop-ch.invariant c.in_ok-push_waits.ensures
