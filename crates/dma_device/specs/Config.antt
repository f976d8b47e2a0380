-- The choices of a chip's designer.
use Rattle.std.specs.Prelude.{ℕ, Bool, ◌&&◌, nat_le}
use Rattle.dma_mem.specs.Limits.{most_channels}
use Rattle.dma_device.specs.declared.config.Revision.TheVariants.{R0p0, R1p0, R1p1, R1p2}
use Rattle.dma_device.specs.{declared.config.Config.Config, declared.config.Revision.Revision}

-- the code of a revision in periph_id_2
abbrev pub revision_code : Revision → ℕ
revision_code R0p0 = 0
revision_code R1p0 = 1
revision_code R1p1 = 2
revision_code R1p2 = 3

abbrev pub most_events : ℕ
most_events = 32

-- (DMA-330 manual, CRD: bits 29:20 are the number of lines less 1)
abbrev pub most_lines : ℕ
most_lines = 1024

-- Whether a device can have this configuration: 1 to 8 channels, 1 to 32 events, and a buffer of 1 to 1,024 lines, each
-- as wide as the bus.
abbrev pub is_valid : Config → Bool
is_valid g =
    nat_le 1 g.channels && (nat_le g.channels most_channels && (nat_le 1 g.events && (nat_le g.events most_events
    && (nat_le 1 g.lines && nat_le g.lines most_lines))))
