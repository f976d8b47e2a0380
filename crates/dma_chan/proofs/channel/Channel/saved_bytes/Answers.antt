use Rattle.std.proofs.Common.{arith}
use Rattle.dma_chan.specs.{Saved.saved}
use Rattle.dma_chan.proofs.SavedParts.{loaded_at}
use Rattle.dma_chan.proofs.channel.Channel.saved_bytes.Goals as goal

pub write-requires-clause-buffer : goal.write-requires-clause-buffer
write-requires-clause-buffer c = grind arith

pub returns-clause-bytes : goal.returns-clause-bytes
unfolding saved
returns-clause-bytes c = grind arith

pub returns-clause-channel : goal.returns-clause-channel
returns-clause-channel c = grind (arith, loaded_at)
