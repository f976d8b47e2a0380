-- What a channel's data bus accepts.
use Rattle.std.specs.Prelude.{ℕ, ◌^◌, Bool, true, ◌&&◌, nat_le}
use Rattle.dma_insn.specs.ControlWord.{field, is_control}
use Rattle.dma_chan.specs.declared.bus.BusWidth.TheVariants.{Bits32, Bits64, Bits128}
use Rattle.dma_chan.specs.{declared.bus.Bus.Bus, declared.bus.Bus.TheVariants.Ideal, declared.bus.Bus.TheVariants.Chip, declared.bus.BusWidth.BusWidth}

-- the code of a width in CRD: the bus has 2 ^ code bytes
abbrev pub bus_code : BusWidth → ℕ
bus_code Bits32 = 2
bus_code Bits64 = 3
bus_code Bits128 = 4

-- How many bytes the widest beat of a bus has. On the ideal bus it has 16 (profile).
abbrev pub widest_beat : Bus → ℕ
widest_beat Ideal = 16
widest_beat (Chip width) = 2 ^ bus_code width

-- Whether the beats of a control word are no wider than a bus. The codes of the sizes of its beats are in bits 3:1 and
-- 17:15 (DMA-330 manual, channel control registers).
abbrev pub fits : Bus → ℕ → Bool
fits Ideal w = true
fits (Chip width) w = nat_le (field 1 3 w) (bus_code width) && nat_le (field 15 3 w) (bus_code width)

-- whether a channel on a bus accepts a control word
abbrev pub accepts : Bus → ℕ → Bool
accepts bus w = fits bus w && is_control w
