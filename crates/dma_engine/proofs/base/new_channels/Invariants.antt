use Rattle.std.proofs.Common.{◌≡◌}
use Rattle.std.specs.Prelude.{replicate}
use Rattle.dma_engine.specs.Object.{empty_channel}
use Rattle.dma_engine.proofs.base.new_channels.Given as goal

abbrev pub invariant-loop-n : goal.invariant-loop-n
invariant-loop-n l = l.channels.items ≡ replicate l._n empty_channel
