-- What turns and writes leave as it is, and that the bytes of memory have no effect on what a turn reports and leaves in
-- registers.
use Rattle.std.specs.Prelude.{◌≡◌, ◌≢◌, ◌⊎◌, ℕ, ◌%◌, List, length, map, replicate, slice_get}
use Rattle.dma_insn.specs.ControlWord.{field}
use Rattle.dma_mem.specs.{Marking.MarkList, Regions.Piece, Regions.read_only_of, declared.regions.Region.Region}
use Rattle.dma_chan.specs.{Channel.ChannelValue, LentRegions.segment_of}
use Rattle.dma_device.specs.{declared.device.turns.Turn.Turn, declared.thread.Thread.Thread, Device.DeviceValue, Device.irq_abort, Device.irqs, Device.read_at}
use Rattle.dma_device.specs.{Device.written, Faults.Addresses, Faults.TheChannel, Faults.TheManager, Faults.Who, Turns.Setup, Turns.TakesTurn, Turns.turned}
use Rattle.dma_device.specs.Offsets as offset

-- ---- a turn

-- A device is as it was but for channel n, the events and the interrupts.
pub record LeavesOthers (n : ℕ) (d e : DeviceValue) : Type 0 where
  pub threads : (m : ℕ) → m ≢ n → slice_get e.threads m ≡ slice_get d.threads m
  pub count : length e.threads ≡ length d.threads
  pub manager : e.manager ≡ d.manager
  pub config : e.config ≡ d.config
  pub inten : e.inten ≡ d.inten
  pub dbginst0 : e.dbginst0 ≡ d.dbginst0
  pub dbginst1 : e.dbginst1 ≡ d.dbginst1

-- This is so after a turn of channel n, whatever its program does.
abbrev pub TurnLeavesOthers : Type 0
TurnLeavesOthers =
    (d e : DeviceValue) (regions left : List Region) (n most : ℕ) (turn : Turn) →
    TakesTurn d regions n most e left turn → LeavesOthers n d e

-- ---- a write

-- a thread is the same in both devices
abbrev pub IsSame : Who → DeviceValue → DeviceValue → Type 0
IsSame TheManager d e = e.manager ≡ d.manager
IsSame (TheChannel n) d e = slice_get e.threads n ≡ slice_get d.threads n

-- the debug instruction is a DMAGO of channel n
abbrev pub IsDmago : DeviceValue → ℕ → Type 0
IsDmago d n =
    let opcode = field 16 8 d.dbginst0 in ((opcode ≡ 0xA0) ⊎ (opcode ≡ 0xA2)) × (field 24 8 d.dbginst0 ≡ n)

-- The debug registers name a thread: it executes the debug instruction, or the manager executes a DMAGO of it.
abbrev pub Names : DeviceValue → Who → Type 0
Names d TheManager = Addresses d TheManager
Names d (TheChannel n) = Addresses d (TheChannel n) ⊎ (Addresses d TheManager × IsDmago d n)

-- A write of a value to the register at an offset may change a thread: it executes the debug instruction, and the debug
-- registers name the thread.
pub record MayChange (who : Who) (at value : ℕ) (d : DeviceValue) : Type 0 where
  pub debug : at ≡ offset.dbgcmd
  pub command : value % 4 ≡ 0
  pub names : Names d who

-- A write to any offset but DBGCMD leaves all threads as they are. Each write leaves those that it may not change,
-- changes at most one, the manager among them, and keeps the configuration.
pub record KeepsThreads (at value : ℕ) (d e : DeviceValue) : Type 0 where
  pub registers : at ≢ offset.dbgcmd → (e.threads ≡ d.threads) × (e.manager ≡ d.manager)
  pub others : (who : Who) → ¬ MayChange who at value d → IsSame who d e
  pub one : (who other : Who) → ¬ IsSame who d e → ¬ IsSame other d e → other ≡ who
  pub count : length e.threads ≡ length d.threads
  pub config : e.config ≡ d.config

-- This is so of each write, whatever RAM is lent.
abbrev pub WriteLeavesThreads : Type 0
WriteLeavesThreads =
    (ram : List Piece) (at value : ℕ) (d : DeviceValue) → KeepsThreads at value d (written ram at value d)

-- ---- bytes of memory

-- a channel with zeros in the place of the bytes in its buffer
abbrev pub blank_channel : ChannelValue → ChannelValue
blank_channel c = record c { buffer = replicate (length c.buffer) 0 }

-- a thread with such a channel
abbrev pub blank : Thread → Thread
blank t = record t { channel = blank_channel t.channel }

-- a device with such threads
abbrev pub blanked : DeviceValue → DeviceValue
blanked d = record d { threads = map blank d.threads }

-- Two devices are alike: they are equal but for the bytes in the channels' buffers, of which each has as many.
pub record IsLike (d e : DeviceValue) : Type 0 where
  pub same : blanked d ≡ blanked e

-- Two devices that are alike, with images of one length.
pub record AreLike (s u : Setup) : Type 0 where
  pub devices : IsLike s.device u.device
  pub size : length s.image ≡ length u.image

-- All registers of two devices read the same, and their lines are the same.
pub record ReadsLike (d e : DeviceValue) : Type 0 where
  pub registers : (at : ℕ) → read_at d at ≡ read_at e at
  pub irqs : irqs d ≡ irqs e
  pub irq_abort : irq_abort d ≡ irq_abort e

-- This is so of devices that are alike.
abbrev pub LikeReadsLike : Type 0
LikeReadsLike = (d e : DeviceValue) → IsLike d e → ReadsLike d e

-- Turns of devices that are alike, with the same marks and over images of one length, report the same and leave devices
-- that are alike. So their faults are the same, as are all registers.
abbrev pub BytesDontMatter : Type 0
BytesDontMatter =
    (marks : MarkList) (n most : ℕ) (s u : Setup) → AreLike s u →
    AreLike (turned marks n most s).0 (turned marks n most u).0
    × ((turned marks n most s).1 ≡ (turned marks n most u).1)

-- This is so of turns over regions that are in the same places, and of which the same are read-only.
abbrev pub RegionBytesDontMatter : Type 0
RegionBytesDontMatter =
    (d e v w : DeviceValue) (regions lent left rest : List Region) (n most : ℕ) (turn other : Turn) →
    TakesTurn d regions n most v left turn → TakesTurn e lent n most w rest other → IsLike d e →
    map segment_of lent ≡ map segment_of regions → read_only_of lent ≡ read_only_of regions →
    IsLike v w × (other ≡ turn)
