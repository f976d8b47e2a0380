-- Where a burst of a chip's bus leaves its address, and how many bytes it moves.
use Rattle.std.specs.Prelude.{◌≡◌, ◌+◌, ◌*◌, ◌%◌, ◌<◌, true}
use Rattle.dma_insn.specs.declared.chip.ChipInsn.TheVariants.{Ld, St}
use Rattle.dma_mem.specs.Marking.{MarkList}
use Rattle.dma_chan.specs.{declared.bursts.Burst.Burst, declared.bus.Bus.TheVariants.Chip, declared.bus.BusWidth.BusWidth, Bursts.burst_len}
use Rattle.dma_chan.specs.{declared.turn.ChanTurn.TheVariants.Moved, Exec.State, Exec.act, Exec.destination_of, Exec.source_of}

-- A burst leaves out less than a beat: it moves more bytes than all of its beats but one have.
abbrev pub LeavesOutPart : Burst → Type 0
LeavesOutPart b = b.beats * b.size < burst_len b + b.size

-- On a chip's bus an executed DMALD whose address rises leaves SAR at a multiple of its beat's size, wherever it began,
-- and an executed DMAST leaves DAR at one. Each leaves out less than a beat.
pub record AlignsAddresses (marks : MarkList) (s : State) : Type 0 where
  pub source : (act marks Ld s).0 ≡ Moved → (source_of s.registers).increments ≡ true →
      (act marks Ld s).1.registers.sar % (source_of s.registers).size ≡ 0
  pub destination : (act marks St s).0 ≡ Moved → (destination_of s.registers).increments ≡ true →
      (act marks St s).1.registers.dar % (destination_of s.registers).size ≡ 0
  pub loaded : LeavesOutPart (source_of s.registers)
  pub stored : LeavesOutPart (destination_of s.registers)

-- Each load and store on such a bus does so.
abbrev pub AddressesAlign : Type 0
AddressesAlign =
    (marks : MarkList) (s : State) (width : BusWidth) → s.registers.bus ≡ Chip width → AlignsAddresses marks s
