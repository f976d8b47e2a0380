-- The bytes of a saved device. Numbers of several bytes are little-endian.
use Rattle.std.specs.Prelude.{◌≡◌, ◌≢◌, ℕ, ◌^◌, ◌<◌, ◌≤◌, true, List, [], ◌∷◌, ◌++◌, length, take, drop, slice_index, slice_set}
use Rattle.std.specs.{Int.w16, Int.w32, Int.to_le_bytes, List.All, List.flat_map}
use Rattle.dma_insn.specs.ControlWord.{flag}
use Rattle.dma_chan.specs.{Saved.AreBytes, Saved.IsChannelValue, Saved.saved, Saved.sealed, Bus.bus_code}
use Rattle.dma_device.specs.{declared.config.Config.Config, declared.save.head.Head.Head, declared.thread.Thread.Thread, Config.is_valid, Config.revision_code}
use Rattle.dma_device.specs.{Device.DeviceValue, Device.csr, Device.has_ftrd, Thread.IsOn, Thread.IsSound}

-- ---- what every device satisfies

-- A thread is sound, its numbers are in their ranges, and its channel satisfies what every channel does.
pub record IsThreadValue (events : ℕ) (t : Thread) : Type 0 where
  pub sound : IsSound events t
  pub fault : t.fault < 2 ^ 32
  pub base : t.base < 2 ^ 32
  pub pc : t.pc < 2 ^ 32
  pub channel : IsChannelValue t.channel

-- The events and the interrupts that are set, and those that INTEN makes interrupts, are among those of the device, and
-- FTRD goes with the manager.
pub record IsSoundHead (h : Head) : Type 0 where
  pub events : h.events < 2 ^ h.config.events
  pub interrupts : h.interrupts < 2 ^ h.config.events
  pub inten : h.inten < 2 ^ h.config.events
  pub manager : has_ftrd h.manager ≡ true

-- the values in the head of a device's save
abbrev pub head_of : DeviceValue → Head
head_of d = record {
  config = d.config;
  manager = d.manager;
  events = d.events;
  interrupts = d.interrupts;
  inten = d.inten;
  dbginst0 = d.dbginst0;
  dbginst1 = d.dbginst1;
}

-- What every device satisfies: its configuration is valid, its head is sound, its other registers have 32 bits, and
-- it has a thread for each channel, on the bus of its configuration (a save has no bus).
pub record IsDeviceValue (d : DeviceValue) : Type 0 where
  pub config : is_valid d.config ≡ true
  pub known : IsSoundHead (head_of d)
  pub dbginst0 : d.dbginst0 < 2 ^ 32
  pub dbginst1 : d.dbginst1 < 2 ^ 32
  pub fault : d.manager.fault < 2 ^ 32
  pub count : length d.threads ≡ d.config.channels
  pub threads : All (IsThreadValue d.config.events) d.threads
  pub on : All (IsOn d.config.bus) d.threads

-- ---- the format

-- Each save begins with `dma330` and a 1. (The save of a channel has a 0 there.)
abbrev pub magic : List ℕ
magic = 100 ∷ 109 ∷ 97 ∷ 51 ∷ 51 ∷ 48 ∷ 1 ∷ []

-- The version of the format, 1, and the configuration: channels, events, 1 if the manager is non-secure after a reset,
-- else 0, the codes of the bus in CRD and of the revision in periph_id_2, and the lines in two bytes.
abbrev pub identity : Config → List ℕ
identity g =
    1 ∷ g.channels ∷ g.events ∷ flag g.nonsecure ∷ bus_code g.bus ∷ revision_code g.revision ∷ to_le_bytes w16 g.lines

-- The head of a save, 40 bytes: the magic; the version and the configuration; 1 if the manager is faulting, else 0; and
-- four bytes each of FTRD, the events and the interrupts that are set, INTEN, DBGINST0 and DBGINST1.
unfoldable pub head_bytes : Head → List ℕ
head_bytes h =
    magic
    ++ identity h.config
    ++ (flag h.manager.is_faulting ∷ [])
    ++ to_le_bytes w32 h.manager.fault
    ++ to_le_bytes w32 h.events
    ++ to_le_bytes w32 h.interrupts
    ++ to_le_bytes w32 h.inten
    ++ to_le_bytes w32 h.dbginst0
    ++ to_le_bytes w32 h.dbginst1

-- A thread without its channel, 20 bytes: four each of CSR, FTR, the address at which its program begins, CPC, and the
-- length of its channel's save.
unfoldable pub thread_bytes : Thread → ℕ → List ℕ
thread_bytes t len =
    to_le_bytes w32 (csr t)
    ++ to_le_bytes w32 t.fault
    ++ to_le_bytes w32 t.base
    ++ to_le_bytes w32 t.pc
    ++ to_le_bytes w32 len

-- a thread, and its channel's save
unfoldable pub saved_thread : Thread → List ℕ
saved_thread t = thread_bytes t (length (saved t.channel)) ++ saved t.channel

-- the head, and the threads in order
unfoldable pub device_parts : DeviceValue → List ℕ
device_parts d = head_bytes (head_of d) ++ flat_map saved_thread d.threads

-- A save: the head, the threads in order, and the checksum of everything before it.
unfoldable pub saved_device : DeviceValue → List ℕ
saved_device d = sealed (device_parts d)

-- the most bytes of a save: 40 of the head, for each of 8 threads 20 and the 8,500 of the longest save of a channel, and
-- 4 of the checksum
abbrev pub most_saved : ℕ
most_saved = 68204

-- Bytes begin as the save of a device of another version or configuration: with the magic, but not with this version
-- and configuration behind it.
pub record IsOfOther (g : Config) (save : List ℕ) : Type 0 where
  pub long : 15 ≤ length save
  pub magic : take 7 save ≡ magic
  pub other : take 8 (drop 7 save) ≢ identity g

-- ---- damage

-- A save in which one byte is another byte is the save of no device. So each flipped bit is refused.
abbrev pub DamageIsRefused : Type 0
DamageIsRefused =
    (d e : DeviceValue) (save : List ℕ) (k byte : ℕ) → save ≡ saved_device d → AreBytes save → k < length save →
    byte < 256 → slice_index save k ≢ byte → ¬ (slice_set save k byte ≡ saved_device e)
