use Rattle.std.proofs.Common.{arith}
use Rattle.dma_chan.specs.Saved.{head_bytes}
use Rattle.dma_chan.proofs.save.write_head.Goals as goal

pub returns-clause-bytes : goal.returns-clause-bytes
unfolding head_bytes
returns-clause-bytes c = grind arith
