use Rattle.dma_ffi.proofs.DeviceSessions as sessions
use Rattle.dma_ffi.proofs.laws.device_sessions_are_histories.Goals as goal

pub returns : goal.returns
returns c = sessions.device_sessions_are_histories
