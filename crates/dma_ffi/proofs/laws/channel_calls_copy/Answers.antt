use Rattle.dma_ffi.proofs.ChannelCalls.{loads_a_transfer, steps_are_calls, steps_copy, steps_keep_the_rest}
use Rattle.dma_ffi.proofs.laws.channel_calls_copy.Goals as goal

pub returns : goal.returns
returns c = record { loads = loads_a_transfer; steps = steps_copy; rest = steps_keep_the_rest; calls = steps_are_calls }
