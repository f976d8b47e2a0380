-- Calls from C on one device, one after another, as a history of accesses.
use Rattle.std.specs.Prelude.{◌≡◌, ℕ, zero, suc, ◌+◌, ◌-◌, ◌<◌, ◌≤◌, ◌||◌, ℤ, Option, Some, List, if◌then◌else◌}
use Rattle.std.specs.Ordering.{int_eq}
use Rattle.dma_mem.specs.declared.regions.Region.{Region}
use Rattle.dma_device.specs.Accesses.{Access, Answer, AreAlike, Done, Happen, Reads, Resets, Restores, Turned, Turns, Value, Writes}
use Rattle.dma_device.specs.Device.{DeviceValue, read_at, reset_device}
use Rattle.dma_device.specs.{RowTurns.report_in, Run.StaysLent, declared.device.rows.RowTurns.RowTurns, declared.device.turns.Turn.Turn}
use Rattle.dma_ffi.specs.Calls.{Becomes, OnOpen, WritesValue}
use Rattle.dma_ffi.specs.Devices.{ReportsRows, ReportsTurn, RestoresDevice, WritesRegister, device_report, rows_report_of}
use Rattle.dma_ffi.specs.{declared.device_calls.DeviceTurn.DeviceTurn, declared.device_rows.DeviceRows.DeviceRows, Codes.bad_save, Codes.ok_code}

-- ---- calls

-- What C requests from a device, and what is where the call writes its answer, before and after.
pub data DeviceRequest : Type 0 where
  -- a read of the register at this offset, and the value's place
  ask_read : (at before value : ℕ) → DeviceRequest
  -- a write of this value to the register at this offset
  ask_write : (at value : ℕ) → DeviceRequest
  -- a turn of channel n of at most `most` steps, and the report's place
  ask_turn : (n most : ℕ) (before report : DeviceTurn) → DeviceRequest
  -- turns of channel n in a row, together of at most `most` steps, and the report's place
  ask_rows : (n most : ℕ) (before report : DeviceRows) → DeviceRequest
  -- a reset
  ask_reset : DeviceRequest
  -- a restore from these bytes
  ask_restore : List ℕ → DeviceRequest
  -- any other request but a close: the lines, a channel's registers, whether a channel can step, a save, what explains a
  -- program, or an open, which is refused
  ask_look : DeviceRequest

-- A call from C on a device as C sees it: the request, the code that it returns, and the regions before and after. C
-- lends them to a call that takes regions, and no other call changes them.
pub record DeviceCall : Type 0 where
  pub request : DeviceRequest
  pub code : ℤ
  pub lent : List Region
  pub left : List Region

-- What a call with this request makes of a device and of regions, and the code that it returns. An open device is
-- `Some d`.
abbrev pub Called : DeviceRequest → ℤ → (found : Option DeviceValue) (lent : List Region) (new : Option DeviceValue)
    (left : List Region) → Type 0
Called (ask_read at before value) code found lent new left =
    WritesValue (λ (d : DeviceValue). read_at d at) found code before value new × (left ≡ lent)
Called (ask_write at value) code found lent new left =
    OnOpen (WritesRegister lent at value) found code new × (left ≡ lent)
Called (ask_turn n most before report) code found lent new left =
    ReportsTurn n most found lent before code new left report
Called (ask_rows n most before report) code found lent new left =
    ReportsRows n most found lent before code new left report
Called ask_reset code found lent new left =
    Becomes (λ (d : DeviceValue). reset_device d.config) found code new × (left ≡ lent)
Called (ask_restore save) code found lent new left = OnOpen (RestoresDevice save) found code new × (left ≡ lent)
Called ask_look code found lent new left = (new ≡ found) × (left ≡ lent)

-- Calls from C on one device, one after another, of which there are `count`: number k finds the device `found k` and
-- leaves `found (k + 1)`. Between calls the host may change the bytes of the regions, and it may lend others.
abbrev pub AreDeviceCalls : (ℕ → DeviceCall) → (ℕ → Option DeviceValue) → ℕ → Type 0
AreDeviceCalls call found count =
    (k : ℕ) → k < count →
    Called (call k).request (call k).code (found k) (call k).lent (found (k + 1)) (call k).left

-- ---- the accesses of a call

-- The number of accesses that a call makes on an open device, by its request and its code. A restore that returns
-- `bad_save` makes one, and any other call that is refused makes none.
abbrev pub accesses_for : DeviceRequest → ℤ → ℕ
accesses_for (ask_read at before value) code = 1
accesses_for (ask_write at value) code = if int_eq code ok_code then 1 else 0
accesses_for (ask_turn n most before report) code = if int_eq code ok_code then 1 else 0
accesses_for (ask_rows n most before report) code = if int_eq code ok_code then report.count else 0
accesses_for ask_reset code = 1
accesses_for (ask_restore save) code = if int_eq code ok_code || int_eq code bad_save then 1 else 0
accesses_for ask_look code = 0

-- the number of accesses that the calls before call n make, which is the number of call n's first access
abbrev pub first_access : (ℕ → DeviceCall) → ℕ → ℕ
first_access call zero = 0
first_access call (suc n) = first_access call n + accesses_for (call n).request (call n).code

-- Accesses in a row: number k finds the device `before k` and the regions `lent k`, returns `answer k`, and leaves
-- `before (k + 1)` and `left k` (`Happen`).
pub record History : Type 0 where
  pub access : ℕ → Access
  pub answer : ℕ → Answer
  pub before : ℕ → DeviceValue
  pub lent : ℕ → List Region
  pub left : ℕ → List Region

-- Access number i of a history is this one, with this answer and over the regions of this call.
pub record IsOne (h : History) (i : ℕ) (call : DeviceCall) (a : Access) (r : Answer) : Type 0 where
  pub access : h.access i ≡ a
  pub answer : h.answer i ≡ r
  pub lent : h.lent i ≡ call.lent
  pub left : h.left i ≡ call.left

-- The accesses of a history from number i on are these turns of channel n, at least one, each over the memory that the
-- one before it left, from the regions that the call is lent to those that it leaves.
pub record AreTurns (h : History) (i : ℕ) (call : DeviceCall) (n : ℕ) (t : RowTurns) : Type 0 where
  pub some : 1 ≤ t.rows.count
  pub access : (k : ℕ) → k < t.rows.count → h.access (i + k) ≡ Turns n t.rows.steps
  pub answer : (k : ℕ) → k < t.rows.count → h.answer (i + k) ≡ Turned (report_in t k)
  pub first : AreAlike (h.lent i) call.lent
  pub next : (k : ℕ) → k + 1 < t.rows.count → h.lent (i + (k + 1)) ≡ h.left (i + k)
  pub last : AreAlike (h.left (i + (t.rows.count - 1))) call.left

-- The accesses of a history from number i on are those of this call, with this request, and their answers are what it
-- returns and writes.
abbrev pub Makes : History → ℕ → DeviceCall → DeviceRequest → Type 0
Makes h i call (ask_read at before value) = IsOne h i call (Reads at) (Value value)
Makes h i call (ask_write at value) = call.code ≡ ok_code → IsOne h i call (Writes at value) Done
Makes h i call (ask_turn n most before report) =
    call.code ≡ ok_code →
    (turn : Turn) × (report ≡ device_report turn (h.before (i + 1))) × IsOne h i call (Turns n most) (Turned turn)
Makes h i call (ask_rows n most before report) =
    call.code ≡ ok_code →
    (turns : RowTurns) × (report ≡ rows_report_of turns (h.before (i + report.count))) × AreTurns h i call n turns
Makes h i call ask_reset = IsOne h i call Resets Done
Makes h i call (ask_restore save) =
    (call.code ≡ ok_code → IsOne h i call (Restores (h.before (i + 1))) Done)
    × (call.code ≡ bad_save → IsOne h i call Resets Done)
Makes h i call ask_look = Unit {0}

-- The calls are the accesses of this history, in order: each access is one of a call, and a call's accesses begin after
-- those of the calls before it. Before each call and after the last the device is open, and is the history's. Where
-- the memory stays from call to call, it stays from access to access.
pub record IsHistoryOf (call : ℕ → DeviceCall) (found : ℕ → Option DeviceValue) (count : ℕ) (h : History)
    : Type 0 where
  pub happen : Happen h.access h.answer h.before h.lent h.left (first_access call count)
  pub finds : (k : ℕ) → k ≤ count → found k ≡ Some (h.before (first_access call k))
  pub makes : (k : ℕ) → k < count → Makes h (first_access call k) (call k) (call k).request
  pub stays : StaysLent (λ k. (call k).lent) (λ k. (call k).left) count →
      StaysLent h.lent h.left (first_access call count)

-- Calls from C on a device that is open before the first one, however many and in any order, are a history of accesses.
-- So what holds of all lists of accesses (specs/Accesses.antt of dma_device) holds of everything that C does with a
-- device between an open and a close.
abbrev pub DeviceSessionsAreHistories : Type 0
DeviceSessionsAreHistories =
    (call : ℕ → DeviceCall) (found : ℕ → Option DeviceValue) (count : ℕ) (d : DeviceValue) → found 0 ≡ Some d →
    AreDeviceCalls call found count → (h : History) × IsHistoryOf call found count h
