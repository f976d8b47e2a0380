-- The addresses that a channel's instructions read, and that nothing else in the memory has any effect on them.
use Rattle.std.specs.Prelude.{◌≡◌, ℕ, ◌<◌, Bool, List, [], length, slice_index, Result, Ok}
use Rattle.std.specs.List.{Contains}
use Rattle.dma_insn.specs.{declared.chip.ChipInsn.ChipInsn, declared.chip.ChipInsn.TheVariants.Ld}
use Rattle.dma_mem.specs.{Image.put, Marking.MarkList}
use Rattle.dma_chan.specs.{declared.exec.Registers.Registers, declared.turn.FaultKind.FaultKind, Bursts.touched, Channel.ChannelValue, Channel.ahead_of}
use Rattle.dma_chan.specs.{Channel.step_of, Channel.stepped, Exec.source_of, Stepping.Machine, Stepping.after_steps}

-- the addresses that an instruction reads: those of its burst for a DMALD, and none for any other instruction or a
-- fault of fetching
abbrev pub read_by : Result ChipInsn FaultKind → Registers → List ℕ
read_by (Ok Ld) r = touched (source_of r)
read_by next r = []

-- the addresses that the next instruction of a channel reads
abbrev pub read_next : ChannelValue → List ℕ
read_next c = read_by (ahead_of c) c.registers

-- two images of one size have the same bytes at these addresses
pub record AgreeAt (places : List ℕ) (x y : List ℕ) : Type 0 where
  pub size : length x ≡ length y
  pub bytes : (a : ℕ) → Contains places a → slice_index x a ≡ slice_index y a

-- A step of a channel is the same over two memories: it gives the same answer and leads to the same channel and flags,
-- and it writes the same bytes to the same addresses.
pub record SameStep (marks : MarkList) (c : ChannelValue) (x y : List ℕ) (flags : List Bool) : Type 0 where
  pub turn : (step_of marks c x flags).0 ≡ (step_of marks c y flags).0
  pub channel : stepped marks c x flags ≡ stepped marks c y flags
  pub events : (step_of marks c x flags).1.flags ≡ (step_of marks c y flags).1.flags
  pub writes : List (ℕ × ℕ)
  pub first : (step_of marks c x flags).1.image ≡ put x writes
  pub second : (step_of marks c y flags).1.image ≡ put y writes

-- A step of any channel depends on no byte of the memory but those that its instruction reads.
abbrev pub ReadsNoOther : Type 0
ReadsNoOther =
    (marks : MarkList) (c : ChannelValue) (x y : List ℕ) (flags : List Bool) → AgreeAt (read_next c) x y →
    SameStep marks c x y flags

-- one of this number of steps is of an instruction that reads an address
abbrev pub Reads : MarkList → Machine → ℕ → ℕ → Type 0
Reads marks s n a = (k : ℕ) × (k < n) × Contains (read_next (after_steps marks s k).channel) a
