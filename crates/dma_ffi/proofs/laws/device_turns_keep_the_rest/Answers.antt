use Rattle.dma_ffi.proofs.DeviceTurns.{rows_keep_the_rest, turns_keep_the_rest}
use Rattle.dma_ffi.proofs.laws.device_turns_keep_the_rest.Goals as goal

pub returns : goal.returns
returns c = record { turn = turns_keep_the_rest; rows = rows_keep_the_rest }
