use Rattle.std.proofs.Common.{arith}
use Rattle.dma_chan.proofs.ReadyLaws.{part_made}
use Rattle.dma_chan.proofs.pages.store_is_ready.Goals as goal

pub returns : goal.returns
returns g c = grind (arith, part_made)
