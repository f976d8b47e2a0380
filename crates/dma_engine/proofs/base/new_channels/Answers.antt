use Rattle.dma_engine.specs.Object.{empty_channel}
use Rattle.std.proofs.lemmas.List.{replicate_more}
use Rattle.dma_engine.proofs.base.new_channels.Goals as goal

pub loop-n-preserved : goal.loop-n-preserved
loop-n-preserved c = rw (c.in_ok-push.ensures.items, c.loop-n.invariant, c.new.ensures.items) (replicate_more c.loop-n._n empty_channel)
