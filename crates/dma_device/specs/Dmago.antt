-- A driver starts a channel by a DMAGO, and a host gives the channel turns.
use Rattle.std.specs.Prelude.{◌≡◌, ℕ, ◌+◌, ◌*◌, ◌%◌, ◌^◌, ◌<◌, ◌≤◌, Bool, true, false, not, ◌&&◌, List, length, Some, slice_get, slice_index, slice_index_or}
use Rattle.std.specs.Prelude.{IsTrue}
use Rattle.std.specs.List.{list_any}
use Rattle.dma_insn.specs.{AssemblyText.most_program_bytes, ControlWord.flag}
use Rattle.dma_mem.specs.Regions.{Piece, has, image_of, in_order, pieces_of}
use Rattle.dma_mem.specs.{Limits.most_channels, declared.regions.Region.Region}
use Rattle.dma_chan.specs.{declared.bus.Bus.Bus, declared.exec.Registers.Registers}
use Rattle.dma_explain.specs.{Explains.Explains, Explains.Work, Works.Uses, Works.work_below}
use Rattle.dma_device.specs.{Device.DeviceValue, Device.read_at, Device.written, Thread.reset_thread, Turns.TakesTurn, declared.device.turns.Turn.Turn}
use Rattle.dma_device.specs.Offsets as offset

-- ---- a driver

-- A driver starts a channel by a DMAGO: the device before it, the RAM that is lent, the program and its address, the
-- channel's number, and whether the channel is to be non-secure.
pub record Go : Type 0 where
  pub device : DeviceValue
  pub ram : List Piece
  pub program : List ℕ
  pub addr : ℕ
  pub channel : ℕ
  pub nonsecure : Bool

-- the registers of a DMAGO's channel before it; if the device doesn't have the channel, those after a reset
abbrev pub start_of : Go → Registers
start_of go = (slice_index_or go.device.threads go.channel (reset_thread go.device.config.bus)).channel.registers

-- the bus of a DMAGO's channel, which is the device's (`IsDeviceValue`)
abbrev pub bus_of : Go → Bus
bus_of go = (start_of go).bus

-- what a guest writes to DBGINST0, so that the manager executes a DMAGO of the channel
abbrev pub dmago_word : Go → ℕ
dmago_word go = (0xA0 + 2 * flag go.nonsecure) * 2 ^ 16 + go.channel * 2 ^ 24

-- the device after its writes to DBGINST0, DBGINST1 and DBGCMD
abbrev pub started_by : Go → DeviceValue
started_by go =
    let readied = written go.ram offset.dbginst1 go.addr (written go.ram offset.dbginst0 (dmago_word go) go.device) in
    written go.ram offset.dbgcmd 0 readied

-- bits 3:0 of CSR n, as a read returns them: 0 if the channel is stopped
abbrev pub csr_status : DeviceValue → ℕ → ℕ
csr_status d n = read_at d (offset.csr + 8 * n) % 16

-- The driver may start the channel: the device has it, it is stopped, FSRD reads as 0, and a non-secure manager starts
-- only non-secure channels.
pub record MayGo (go : Go) : Type 0 where
  pub there : go.channel < length go.device.threads
  pub few : go.channel < most_channels
  pub stopped : csr_status go.device go.channel ≡ 0
  pub manager : read_at go.device offset.fsrd ≡ 0
  pub allowed : (go.device.config.nonsecure && not go.nonsecure) ≡ false

-- A program of at most 8,192 bytes is in RAM from an address on: each of its addresses lies in a piece, and has there
-- the program's byte.
pub record HasProgram (ram : List Piece) (addr : ℕ) (program : List ℕ) : Type 0 where
  pub order : IsTrue (in_order ram)
  pub short : length program ≤ most_program_bytes
  pub lies : (k : ℕ) → k < length program → IsTrue (list_any (has (addr + k)) ram)
  pub bytes : (k : ℕ) → k < length program → slice_index (image_of ram) (addr + k) ≡ slice_index program k

-- ---- a host

-- the image of the memory that regions lend
abbrev pub image_in : List Region → List ℕ
image_in regions = image_of (pieces_of regions)

-- In the memory that regions in order lend, each address of a region has the region's byte.
abbrev pub ImageHasBytes : Type 0
ImageHasBytes =
    (regions : List Region) (i k : ℕ) (r : Region) → IsTrue (in_order (pieces_of regions)) →
    slice_get regions i ≡ Some r → k < length r.bytes.now →
    slice_index (image_in regions) (r.addr + k) ≡ slice_index r.bytes.now k

-- Turns of a channel, of which there are `count`: number k, of at most `most k` steps, goes from the device `before k`
-- and the regions `lent k` to `after k` and `left k`.
pub record GivenTurns : Type 0 where
  pub count : ℕ
  pub most : ℕ → ℕ
  pub before : ℕ → DeviceValue
  pub after : ℕ → DeviceValue
  pub lent : ℕ → List Region
  pub left : ℕ → List Region

-- A driver has put a program into RAM and starts it by a DMAGO; w explains the program, begun with the channel's
-- registers, with n instructions before its DMAEND; and then a host gives the channel turns. Between two turns the
-- guest and other channels may do anything to the device except to the channel's thread, and may write any byte that w
-- neither reads nor writes. In each turn the ranges of w lie below the end of the regions.
pub record RunsCopy (go : Go) (w : Work) (n : ℕ) (run : GivenTurns) : Type 0 where
  pub in_ram : HasProgram go.ram go.addr go.program
  pub may_go : MayGo go
  pub explains : Explains (start_of go) go.program w n
  pub begins : slice_get (run.before 0).threads go.channel ≡ slice_get (started_by go).threads go.channel
  pub takes : (k : ℕ) → k < run.count →
      (turn : Turn) × TakesTurn (run.before k) (run.lent k) go.channel (run.most k) (run.after k) (run.left k) turn
  pub below : (k : ℕ) → k < run.count → work_below w (length (image_in (run.lent k))) ≡ true
  pub goes_on : (k : ℕ) → k + 1 < run.count →
      slice_get (run.before (k + 1)).threads go.channel ≡ slice_get (run.after k).threads go.channel
  pub unchanged : (k a : ℕ) → k + 1 < run.count → Uses w a →
      slice_index (image_in (run.lent (k + 1))) a ≡ slice_index (image_in (run.left k)) a
