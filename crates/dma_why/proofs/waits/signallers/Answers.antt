use Rattle.dma_engine.specs.View.{object_of}
use Rattle.dma_why.specs.Waits.{signallers_on}
use Rattle.dma_why.proofs.WaitLemmas.{items_more}
use Rattle.dma_why.proofs.waits.signallers.Goals as goal

pub loop-ch-preserved : goal.loop-ch-preserved
loop-ch-preserved c =
    items_more (signallers_on (object_of c.args.engine.now.view) c.args.event) _ _ _ c.loop-ch.invariant c.in_ok-push_signallers.ensures
