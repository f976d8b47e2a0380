-- What a call from C on a device does and returns.
use Rattle.std.specs.Prelude.{◌≡◌, ◌≢◌, ℕ, ◌+◌, ◌*◌, ◌^◌, ◌≤◌, ◌<◌, ◌⊎◌, ◌==◌, Bool, true, false, not, ℤ, Option, Some, None, IsSomeAnd, if◌then◌else◌, List}
use Rattle.std.specs.Prelude.{Result, Ok, Err, IsTrue, length, min, slice_get, slice_index}
use Rattle.std.specs.List.{list_any}
use Rattle.dma_mem.specs.Regions.{has, image_of, pieces_of, read_only_of}
use Rattle.dma_mem.specs.{Lent.lies_in_any, declared.regions.Region.Region, declared.segment.Segment.Segment}
use Rattle.dma_chan.specs.{LentRegions.AreKept, Written.KeepsOutside, Written.LiesIn, Written.range_at, declared.bus.BusWidth.BusWidth}
use Rattle.dma_chan.specs.{declared.bus.BusWidth.TheVariants.Bits32, declared.bus.BusWidth.TheVariants.Bits64, declared.bus.BusWidth.TheVariants.Bits128}
use Rattle.dma_device.specs.Accesses.{Does, Done, Reads, Resets, Restores, Turned, Turns, Value, Writes}
use Rattle.dma_device.specs.Device.{DeviceValue, irq_abort, irqs, read_at, reset_device, written}
use Rattle.dma_device.specs.Snapshot.{IsDeviceValue, IsOfOther, most_saved, saved_device}
use Rattle.dma_device.specs.declared.config.Revision.TheVariants.{R0p0, R1p0, R1p1, R1p2}
use Rattle.dma_device.specs.{Config.is_valid, Offsets.dbgcmd, RowTurns.TakesRowTurns, Thread.can_step, Thread.shown, Turns.TakesTurn, Turns.visible_events}
use Rattle.dma_device.specs.{Writes.TurnWrote, declared.config.Config.Config, declared.config.Revision.Revision, declared.device.rows.RowTurns.RowTurns}
use Rattle.dma_device.specs.{declared.device.turns.Turn.Turn, declared.save.RestoreFault.RestoreFault, declared.save.RestoreFault.TheVariants.BadSave}
use Rattle.dma_device.specs.{declared.save.RestoreFault.TheVariants.OtherDevice}
use Rattle.dma_ffi.specs.Calls.{Becomes, OnOpen, WritesValue}
use Rattle.dma_ffi.specs.Codes.{already_open, bad_config, bad_regions, bad_save, no_channel, no_memory, not_open, ok_code, other_device}
use Rattle.dma_ffi.specs.{declared.channel_calls.ChannelRegisters.ChannelRegisters, declared.device_config.DeviceConfig.DeviceConfig}
use Rattle.dma_ffi.specs.{declared.device_calls.DeviceTurn.DeviceTurn, declared.device_rows.DeviceRows.DeviceRows, Channels.are_usable, Channels.registers_of}

-- ---- the configuration

-- the width of a bus of this many bits, if there is one
abbrev pub width_of_bits : ℕ → Option BusWidth
width_of_bits bits =
    if bits == 32 then Some Bits32 else (
    if bits == 64 then Some Bits64 else (
    if bits == 128 then Some Bits128 else None))

-- the revision with this code, if any
abbrev pub revision_of : ℕ → Option Revision
revision_of code =
    if code == 0 then Some R0p0 else (
    if code == 1 then Some R1p0 else (
    if code == 2 then Some R1p1 else (
    if code == 3 then Some R1p2 else None)))

-- the configuration of these numbers, with this bus and revision, if any
abbrev pub config_with : DeviceConfig → Option BusWidth → Option Revision → Option Config
config_with c (Some bus) (Some revision) = Some (record {
  channels = min c.channels 255;
  events = min c.events 255;
  nonsecure = not (c.nonsecure == 0);
  bus = bus;
  lines = min c.lines 65535;
  revision = revision;
})
config_with c _ _ = None

-- The configuration of these numbers, if any. A count above the largest that its field can have becomes the largest,
-- which no device can have either.
abbrev pub config_of : DeviceConfig → Option Config
config_of c = config_with c (width_of_bits c.bus) (revision_of c.revision)

-- whether a device can have these numbers
abbrev pub is_possible : Option Config → Bool
is_possible None = false
is_possible (Some g) = is_valid g

-- Opens a device. If it is open already: `already_open`, and nothing changes. Else `ok_code`, and the device is that of
-- these numbers in its state after a reset; or it stays closed, with `bad_config` exactly if no device can have the
-- numbers, else with `no_memory`.
abbrev pub Opens : DeviceConfig → Option DeviceValue → ℤ → Option DeviceValue → Type 0
Opens c (Some d) code new = (code ≡ already_open) × (new ≡ Some d)
Opens c None code None = code ≡ (if is_possible (config_of c) then no_memory else bad_config)
Opens c None code (Some d) =
    (code ≡ ok_code) × (is_possible (config_of c) ≡ true) × (config_of c ≡ Some d.config) × (d ≡ reset_device d.config)

-- ---- registers

-- whether a write to the register at this offset may start a program, which is then read from the regions: to DBGCMD
abbrev pub needs_regions : ℕ → Bool
needs_regions at = at == dbgcmd

-- Writes a register of an open device, over the RAM of these regions. Fails with `bad_regions` exactly if the write may
-- read the regions and they aren't usable, and then nothing changes.
abbrev pub WritesRegister : List Region → ℕ → ℕ → DeviceValue → ℤ → DeviceValue → Type 0
WritesRegister regions at value d code e =
    ((code ≡ bad_regions) × (needs_regions at ≡ true) × (are_usable regions ≡ false) × (e ≡ d))
    ⊎ ((code ≡ ok_code) × (needs_regions at ≡ true → are_usable regions ≡ true)
    × (e ≡ written (pieces_of regions) at value d))

-- Writes the registers and counts that the thread of channel `n` of a device shows: those of the channel, or, after an
-- instruction that failed, those from before it (`TurnShows`). Fails with `no_channel` exactly if the device doesn't
-- have the channel, and then writes nothing.
abbrev pub WritesRegisters : ℕ → DeviceValue → ℤ → ChannelRegisters → ChannelRegisters → Type 0
WritesRegisters n d code before after =
    ((code ≡ no_channel) × (slice_get d.threads n ≡ None) × (after ≡ before))
    ⊎ ((code ≡ ok_code) × IsSomeAnd (slice_get d.threads n) (λ t. after ≡ registers_of (shown t)))

-- ---- turns and lines

-- the lines irq[31:0], and the number of the line irq_abort
abbrev pub lines_of : DeviceValue → ℕ × ℕ
lines_of d = (irqs d, if irq_abort d then 1 else 0)

-- 1 if any channel runs and, by its status, doesn't wait for an event whose flag is clear, else 0
abbrev pub any_can_step : DeviceValue → ℕ
any_can_step d = if list_any (can_step (visible_events d)) d.threads then 1 else 0

-- the report of a turn that left a device like this
abbrev pub device_report : Turn → DeviceValue → DeviceTurn
device_report turn e = record {
  written = turn.written;
  taken = turn.taken;
  lines_changed = if turn.lines_changed then 1 else 0;
  can_step = any_can_step e;
}

-- A call from C on a device over regions, with a report, before and after. `Makes` is what it does on an open device
-- over usable regions. Otherwise it returns `not_open`, else `bad_regions`, and changes nothing.
abbrev pub Reports : {R : Type 0} → (DeviceValue → List Region → DeviceValue → List Region → R → Type 0)
    → Option DeviceValue → List Region → R → ℤ → Option DeviceValue → List Region → R → Type 0
Reports Makes None regions before code new left report =
    (code ≡ not_open) × (new ≡ None) × (left ≡ regions) × (report ≡ before)
Reports Makes (Some d) regions before code new left report =
    ((code ≡ bad_regions) × (are_usable regions ≡ false) × (new ≡ Some d) × (left ≡ regions) × (report ≡ before))
    ⊎ ((code ≡ ok_code) × (are_usable regions ≡ true) × IsSomeAnd new (λ e. Makes d regions e left report))

-- A call from C that takes a turn of channel `n`, of at most `most` steps.
abbrev pub ReportsTurn : ℕ → ℕ → Option DeviceValue → List Region → DeviceTurn → ℤ
    → Option DeviceValue → List Region → DeviceTurn → Type 0
ReportsTurn n most =
    Reports (λ d regions e left report. (turn : Turn) × TakesTurn d regions n most e left turn
    × (report ≡ device_report turn e))

-- the report of several turns that left a device like this
abbrev pub rows_report_of : RowTurns → DeviceValue → DeviceRows
rows_report_of turns e = record {
  turn = device_report (record { written = turns.rows.first; taken = turns.taken; lines_changed = turns.lines_changed }) e;
  pitch = turns.rows.pitch;
  count = turns.rows.count;
  steps = turns.rows.steps;
}

-- Turns of channel `n` one after another, at least one, and just one if `most` is 0. Their number times the most steps
-- of each is at most `most`, and each may take a step if `most` isn't 0. Each took at most one step more than that. No
-- range begins above the last address.
pub record TakesRows (n most : ℕ) (d : DeviceValue) (regions : List Region) (e : DeviceValue) (left : List Region)
    (report : DeviceRows) : Type 0 where
  pub turns : RowTurns
  pub takes : TakesRowTurns d regions n e left turns
  pub reported : report ≡ rows_report_of turns e
  pub some : 1 ≤ report.count
  pub one : most ≡ 0 → report.count ≡ 1
  pub moves : 0 < most → 0 < report.steps
  pub few : report.count * report.steps ≤ most
  pub low : (k : ℕ) → k < report.count → report.turn.written.addr + k * report.pitch < 2 ^ 32
  pub taken : report.turn.taken ≤ report.steps + 1

-- A call from C that takes such turns.
abbrev pub ReportsRows : ℕ → ℕ → Option DeviceValue → List Region → DeviceRows → ℤ
    → Option DeviceValue → List Region → DeviceRows → Type 0
ReportsRows n most = Reports (TakesRows n most)

-- A call from C that takes a turn, of a channel with any program: if it returns `ok_code`, one of the turn's steps
-- wrote each address in the range that it reports as written, and no byte outside the range has changed. Else nothing
-- has changed. In either case the regions keep their places.
pub record KeepsTheRest (n most : ℕ) (old : Option DeviceValue) (regions : List Region) (before : DeviceTurn) (code : ℤ)
    (new : Option DeviceValue) (left : List Region) (report : DeviceTurn) : Type 0 where
  pub kept : code ≡ ok_code → KeepsOutside report.written (image_of (pieces_of regions)) (image_of (pieces_of left))
  pub each : (a : ℕ) → code ≡ ok_code → LiesIn report.written a →
      (d : DeviceValue) × (old ≡ Some d) × TurnWrote d regions n most a
  pub in_place : AreKept left regions
  pub refused : code ≢ ok_code → (new ≡ old) × (left ≡ regions) × (report ≡ before)

-- Each such call keeps the rest.
abbrev pub TurnsKeepTheRest : Type 0
TurnsKeepTheRest =
    (n most : ℕ) (old : Option DeviceValue) (regions : List Region) (before : DeviceTurn) (code : ℤ)
    (new : Option DeviceValue) (left : List Region) (report : DeviceTurn) →
    ReportsTurn n most old regions before code new left report →
    KeepsTheRest n most old regions before code new left report

-- the range of row k of a report, from 0 on
abbrev pub row_in : DeviceRows → ℕ → Segment
row_in r k = range_at (r.turn.written.addr + k * r.pitch) r.turn.written.len

-- A call from C that takes several turns, of a channel with any program: if it returns `ok_code`, one of the turns'
-- steps wrote each address in the rows that it reports, each lies in a region, and in none that is read-only, and no
-- byte outside the rows has changed. Else nothing has changed. In either case the regions keep their places.
pub record KeepsOutsideRows (n : ℕ) (old : Option DeviceValue) (regions : List Region) (before : DeviceRows) (code : ℤ)
    (new : Option DeviceValue) (left : List Region) (report : DeviceRows) : Type 0 where
  pub kept : (a : ℕ) → code ≡ ok_code → ((k : ℕ) → k < report.count → ¬ LiesIn (row_in report k) a) →
      slice_index (image_of (pieces_of left)) a ≡ slice_index (image_of (pieces_of regions)) a
  pub each : (k a : ℕ) → code ≡ ok_code → k < report.count → LiesIn (row_in report k) a →
      (d : DeviceValue) × ((lent : List Region) × TurnWrote d lent n report.steps a)
  pub within : (k a : ℕ) → code ≡ ok_code → k < report.count → LiesIn (row_in report k) a →
      IsTrue (list_any (has a) (pieces_of regions)) × (lies_in_any (read_only_of regions) a ≡ false)
  pub in_place : AreKept left regions
  pub refused : code ≢ ok_code → (new ≡ old) × (left ≡ regions) × (report ≡ before)

-- Each such call keeps the rest.
abbrev pub RowsKeepTheRest : Type 0
RowsKeepTheRest =
    (n most : ℕ) (old : Option DeviceValue) (regions : List Region) (before : DeviceRows) (code : ℤ)
    (new : Option DeviceValue) (left : List Region) (report : DeviceRows) →
    ReportsRows n most old regions before code new left report →
    KeepsOutsideRows n old regions before code new left report

-- ---- saves

-- The save has at most 68,204 bytes, and the device satisfies what every device does.
abbrev pub FitsSave : DeviceValue → Type 0
FitsSave d = (length (saved_device d) ≤ most_saved) × IsDeviceValue d

-- The bytes are the save of this device, which has this configuration.
pub record IsSaveOf (save : List ℕ) (g : Config) (d : DeviceValue) : Type 0 where
  pub value : IsDeviceValue d
  pub config : d.config ≡ g
  pub bytes : save ≡ saved_device d

-- the code of the answer to a restore
abbrev pub restore_code : {A : Type 0} → Result A RestoreFault → ℤ
restore_code (Ok x) = ok_code
restore_code (Err OtherDevice) = other_device
restore_code (Err BadSave) = bad_save

-- Makes the device the one of a save: these bytes are its save, it satisfies what every device does, and no other
-- device of its configuration has this save. Fails with `other_device` exactly if the bytes begin as the save of a
-- device of another version or configuration, and then nothing changes; else with `bad_save` exactly if they are the
-- save of no device, and then the device is in its state after a reset.
abbrev pub RestoresDevice : List ℕ → DeviceValue → ℤ → DeviceValue → Type 0
RestoresDevice save d code e =
    ((code ≡ ok_code) × IsSaveOf save d.config e
    × ((f : DeviceValue) → IsSaveOf save d.config f → e ≡ f))
    ⊎ (((code ≡ other_device) × IsOfOther d.config save × (e ≡ d))
    ⊎ ((code ≡ bad_save) × (¬ IsOfOther d.config save) × ((f : DeviceValue) → ¬ IsSaveOf save d.config f)
    × (e ≡ reset_device d.config)))

-- ---- as accesses

-- Calls from C on an open device are accesses (specs/Accesses.antt of dma_device): a read; a write that returns
-- `ok_code`; a turn that returns `ok_code`, or several, of which C gets the report; a reset; a restore that
-- returns `ok_code`, as it does for the save of any device of the same configuration; and a restore that returns
-- `bad_save`, which is a reset.
pub record CallsAreAccesses : Type 0 where
  pub reads : (d : DeviceValue) (at before value : ℕ) (code : ℤ) (new : Option DeviceValue) (regions : List Region) →
      WritesValue (λ (e : DeviceValue). read_at e at) (Some d) code before value new →
      (new ≡ Some d) × Does (Reads at) d regions (Value value) d regions
  pub writes : (d e : DeviceValue) (at value : ℕ) (regions : List Region) →
      OnOpen (WritesRegister regions at value) (Some d) ok_code (Some e) →
      Does (Writes at value) d regions Done e regions
  pub turns : (d e : DeviceValue) (n most : ℕ) (regions left : List Region) (before report : DeviceTurn) →
      ReportsTurn n most (Some d) regions before ok_code (Some e) left report →
      (turn : Turn) × (report ≡ device_report turn e) × Does (Turns n most) d regions (Turned turn) e left
  pub rows : (d e : DeviceValue) (n most : ℕ) (regions left : List Region) (before report : DeviceRows) →
      ReportsRows n most (Some d) regions before ok_code (Some e) left report →
      (turns : RowTurns) × (report ≡ rows_report_of turns e) × TakesRowTurns d regions n e left turns
  pub resets : (d : DeviceValue) (code : ℤ) (new : Option DeviceValue) (regions : List Region) →
      Becomes (λ (e : DeviceValue). reset_device e.config) (Some d) code new →
      (e : DeviceValue) × (new ≡ Some e) × Does Resets d regions Done e regions
  pub restores : (d e : DeviceValue) (save : List ℕ) (regions : List Region) →
      OnOpen (RestoresDevice save) (Some d) ok_code (Some e) → Does (Restores e) d regions Done e regions
  pub saves_restore : (d e saved : DeviceValue) (save : List ℕ) (code : ℤ) →
      OnOpen (RestoresDevice save) (Some d) code (Some e) → IsSaveOf save d.config saved →
      (code ≡ ok_code) × (e ≡ saved)
  pub refuses : (d e : DeviceValue) (save : List ℕ) (regions : List Region) →
      OnOpen (RestoresDevice save) (Some d) bad_save (Some e) → Does Resets d regions Done e regions
