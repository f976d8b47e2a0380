-- The limits that several crates share.
use Rattle.std.specs.Prelude.{ℕ, ◌-◌}

-- the most bytes of a memory (profile): 4,096 below the end of the 32-bit addresses
abbrev pub largest_size : ℕ
largest_size = 4294963200

-- the most segments in one list (profile)
abbrev pub most_segments : ℕ
most_segments = 64

-- the most bytes in one transfer (profile)
abbrev pub most_transfer_bytes : ℕ
most_transfer_bytes = 1048576

-- the last event of the controller, which has 32 (PL330 manual, DMASEV and DMAWFE)
abbrev pub last_event : ℕ
last_event = 31

-- the most channels of a controller (PL330 manual, the number of channel threads is configurable)
abbrev pub most_channels : ℕ
most_channels = 8

-- the last channel that a controller can have
abbrev pub last_channel : ℕ
last_channel = most_channels - 1
