-- The load of a transfer that may not have been made.
use Rattle.std.specs.Prelude.{◌≡◌, ◌⊎◌, ℤ, Result, Ok, Err}
use Rattle.dma_mem.specs.{Places.Descriptor, declared.transfer.TransferFault.TransferFault}
use Rattle.dma_chan.specs.{Channel.ChannelValue, Channel.loaded, Compiled.compiled}
use Rattle.dma_ffi.specs.Codes.{no_memory, ok_code, transfer_code}

-- A channel is given a transfer that was made, and becomes `loaded` with its program, or is unchanged if out of memory;
-- or it is given none because of a fault, and is unchanged.
abbrev pub LoadsMade : Result Descriptor TransferFault → ChannelValue → ℤ → ChannelValue → Type 0
LoadsMade (Ok t) c code d = ((code ≡ ok_code) × (d ≡ loaded (compiled t))) ⊎ ((code ≡ no_memory) × (d ≡ c))
LoadsMade (Err fault) c code d = (code ≡ transfer_code fault) × (d ≡ c)
