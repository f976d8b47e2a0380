-- The registers of a channel with the number of bytes in its buffer, and its next instruction.
use Rattle.std.specs.Prelude.{ℕ, length}
use Rattle.dma_chan.specs.{declared.exec.Registers.Registers, Channel.ChannelValue, Channel.ahead_of}
use Rattle.dma_explain.specs.Explains.{Trace, held}
use Rattle.dma_trace.specs.declared.words.{Front.Front, Point.Point}

-- the front of a channel with these registers and this number of bytes in its buffer
abbrev pub front_of : Registers → ℕ → Front
front_of r n = record { registers = r; held = n }

-- the front of a run without memory
abbrev pub front_at : Trace → Front
front_at x = front_of x.registers (held x)

-- the next instruction of a channel, after n others
abbrev pub point_of : ℕ → ChannelValue → Point
point_of n c = record { ahead = ahead_of c; steps = n; front = front_of c.registers (length c.buffer) }
