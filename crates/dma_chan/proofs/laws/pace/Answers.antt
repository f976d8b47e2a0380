use Rattle.dma_chan.proofs.{Pace.order_is, Pace.stays_in_step, Pace.gets_to_end, ShapeLaws.stored_is}
use Rattle.dma_chan.proofs.laws.pace.Goals as goal

pub returns : goal.returns
returns c = record { order = order_is; stored = stored_is; steps = stays_in_step; ends = gets_to_end }
