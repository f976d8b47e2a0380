-- A board has several devices over one memory, on one of which a driver starts a program that copies. The channel's
-- turns are lent the addresses that the program reads or writes. All else that happens may be lent any part of the
-- memory: for example, the write to DBGCMD only the program, and another device only what that device may use.
use Rattle.std.specs.Prelude.{◌≡◌, ◌≢◌, ℕ, zero, suc, ◌+◌, ◌-◌, ◌*◌, ◌%◌, ◌<◌, ◌≤◌, Bool, true, false, ◌&&◌, ◌==◌, List, [], ◌∷◌, ◌++◌, length}
use Rattle.std.specs.Prelude.{slice_get, slice_index, slice_index_or, if◌then◌else◌}
use Rattle.std.specs.List.{Contains, list_any}
use Rattle.dma_insn.specs.ControlWord.{field, flag}
use Rattle.dma_mem.specs.{Regions.has, Regions.pieces_of, declared.regions.Region.Region}
use Rattle.dma_explain.specs.{Explains.Explains, Explains.Work, Explains.written, Works.IsWorked, Works.Uses, Works.work_below}
use Rattle.dma_chan.specs.Written.{LiesIn}
use Rattle.dma_device.specs.Accesses.{Access, Answer, Does, Resets, Restores, Stores, Turned, Turns, Writes}
use Rattle.dma_device.specs.Dmago.{Go, GivenTurns, HasProgram, MayGo, RunsCopy, csr_status, image_in, start_of}
use Rattle.dma_device.specs.{Device.DeviceValue, Explaining.StaysIn, Faults.TheChannel, Frame.MayChange, declared.device.turns.Turn.Turn}
use Rattle.dma_device.specs.Offsets as offset

-- ---- a board

-- Events on a board, of which there are `count`: number k is an access to device number `device k`, which is lent the
-- regions `lent k`, returns `answer k`, and leaves `left k`. Device b is `before k b` before it, and `before (k + 1) b`
-- after it.
pub record BoardEvents : Type 0 where
  pub count : ℕ
  pub access : ℕ → Access
  pub device : ℕ → ℕ
  pub answer : ℕ → Answer
  pub before : ℕ → ℕ → DeviceValue
  pub lent : ℕ → List Region
  pub left : ℕ → List Region

-- Each event does to its device and to the memory what its access does, and leaves each other device as it is.
pub record Happens (h : BoardEvents) : Type 0 where
  pub does : (k : ℕ) → k < h.count →
      let b = h.device k in
      Does (h.access k) (h.before k b) (h.lent k) (h.answer k) (h.before (k + 1) b) (h.left k)
  pub others : (k b : ℕ) → k < h.count → b ≢ h.device k → h.before (k + 1) b ≡ h.before k b

-- ---- a driver

-- The debug registers have the DMAGO of `go`, for the manager. Bit 0 of DBGINST0 is 0, its bits 23:16 are 0xA0, or 0xA2
-- for a non-secure channel, and its bits 31:24 are the channel's number. Its other bits may have any value. DBGINST1 is
-- the program's address.
pub record HasDmago (go : Go) : Type 0 where
  pub manager : field 0 1 go.device.dbginst0 ≡ 0
  pub opcode : field 16 8 go.device.dbginst0 ≡ 0xA0 + 2 * flag go.nonsecure
  pub channel : field 24 8 go.device.dbginst0 ≡ go.channel
  pub addr : go.device.dbginst1 ≡ go.addr

-- Event number 0 executes the DMAGO of `go` on device b: a write to DBGCMD of any value that has 0 in bits 1:0, while
-- DBGINST0 and DBGINST1 have what the driver wrote to them, in any earlier events.
pub record Begins (go : Go) (b : ℕ) (h : BoardEvents) : Type 0 where
  pub some : 0 < h.count
  pub number : h.device 0 ≡ b
  pub value : ℕ
  pub command : value % 4 ≡ 0
  pub access : h.access 0 ≡ Writes offset.dbgcmd value
  pub device : h.before 0 b ≡ go.device
  pub ram : pieces_of (h.lent 0) ≡ go.ram
  pub dmago : HasDmago go

-- ---- the channel's turns

-- whether an access is a turn of channel n
abbrev pub is_turn : ℕ → Access → Bool
is_turn n (Turns m most) = m == n
is_turn n a = false

-- the most steps of a turn
abbrev pub most_of : Access → ℕ
most_of (Turns m most) = most
most_of a = 0

-- whether event number k is a turn of channel n of device b
abbrev pub is_turn_at : BoardEvents → ℕ → ℕ → ℕ → Bool
is_turn_at h b n k = h.device k == b && is_turn n (h.access k)

-- the numbers of those of the first k events that are turns of channel n of device b, in order
abbrev pub own_turns : BoardEvents → ℕ → ℕ → ℕ → List ℕ
own_turns h b n zero = []
own_turns h b n (suc k) =
    let earlier = own_turns h b n k in
    if is_turn_at h b n k then earlier ++ (k ∷ []) else earlier

-- the number of the event that is turn number j of channel n of device b, counted from 0; if there are no more than j
-- turns, the number of events
abbrev pub event_of : BoardEvents → ℕ → ℕ → ℕ → ℕ
event_of h b n j = slice_index_or (own_turns h b n h.count) j h.count

-- The turns of channel n of device b, and no other event.
abbrev pub turns_of : BoardEvents → ℕ → ℕ → GivenTurns
turns_of h b n = record {
  count = length (own_turns h b n h.count);
  most = λ j. most_of (h.access (event_of h b n j));
  before = λ j. h.before (event_of h b n j) b;
  after = λ j. h.before (event_of h b n j + 1) b;
  lent = λ j. h.lent (event_of h b n j);
  left = λ j. h.left (event_of h b n j);
}

-- ---- the memory

-- whether one of the regions has an address
abbrev pub is_lent : List Region → ℕ → Bool
is_lent regions a = list_any (has a) (pieces_of regions)

-- One memory is behind the regions of all events: it is `memory k` before event number k, and `memory (k + 1)` after
-- it. The event meets it at an address if its regions have the memory's byte there before it, and the memory has theirs
-- after it. (An address in a gap between regions has the byte 0.)
pub record Meets (memory : ℕ → List ℕ) (h : BoardEvents) (k a : ℕ) : Type 0 where
  pub finds : slice_index (image_in (h.lent k)) a ≡ slice_index (memory k) a
  pub leaves : slice_index (memory (k + 1)) a ≡ slice_index (image_in (h.left k)) a

-- Event number k leaves the memory's byte at an address as it is.
abbrev pub LeavesByte : (memory : ℕ → List ℕ) → (k a : ℕ) → Type 0
LeavesByte memory k a = slice_index (memory (k + 1)) a ≡ slice_index (memory k) a

-- Event number k shares the memory at an address: it meets the memory if it is lent the address, and otherwise it
-- leaves the memory's byte there as it is.
pub record Shares (memory : ℕ → List ℕ) (h : BoardEvents) (k a : ℕ) : Type 0 where
  pub lent : is_lent (h.lent k) a ≡ true → Meets memory h k a
  pub other : is_lent (h.lent k) a ≡ false → LeavesByte memory k a

-- ---- all other events

-- Event number k leaves the thread of channel n of device b as it is.
abbrev pub LeavesThread : BoardEvents → (n b k : ℕ) → Type 0
LeavesThread h n b k = slice_get (h.before (k + 1) b).threads n ≡ slice_get (h.before k b).threads n

-- An access to the channel's device that isn't its turn spares its thread: it is no reset, no restore of another
-- thread, and no write that may change the thread.
abbrev pub SparesThread : ℕ → Access → DeviceValue → Type 0
SparesThread n (Writes at value) d = ¬ MayChange (TheChannel n) at value d
SparesThread n Resets d = ⊥
SparesThread n (Restores saved) d = slice_get saved.threads n ≡ slice_get d.threads n
SparesThread n a d = Unit {0}

-- An access writes no address that a work uses: neither a byte that the processor writes lies there, nor the range that
-- a turn reports as written.
abbrev pub SparesBytes : Work → Access → Answer → Type 0
SparesBytes w (Stores addr byte) answer = ¬ Uses w addr
SparesBytes w (Turns n most) answer =
    (turn : Turn) (a : ℕ) → answer ≡ Turned turn → Uses w a → ¬ LiesIn turn.written a
SparesBytes w a answer = Unit {0}

-- ---- a program that copies

-- A driver has put a program into RAM and starts it on device b by a DMAGO, event number 0; w explains the program,
-- begun with the channel's registers, with n instructions before its DMAEND. Then come any events on all devices, of
-- which only turns of the channel change its thread.
pub record RunsOn (go : Go) (w : Work) (n b : ℕ) (h : BoardEvents) : Type 0 where
  pub happens : Happens h
  pub begins : Begins go b h
  pub in_ram : HasProgram go.ram go.addr go.program
  pub may_go : MayGo go
  pub explains : Explains (start_of go) go.program w n
  pub thread : (k : ℕ) → 0 < k → k < h.count → h.device k ≡ b →
      is_turn go.channel (h.access k) ≡ false → LeavesThread h go.channel b k

-- Of these events only turns of the channel change bytes of the memory at addresses that w uses. Each of these turns
-- meets the memory at these addresses, and the ranges of w lie below the end of its regions. They also lie in the
-- memory at the DMAGO. Of the regions of other events nothing is supposed.
pub record CopiesOn (go : Go) (w : Work) (n b : ℕ) (h : BoardEvents) (memory : ℕ → List ℕ) :
    Type 0 where
  pub runs : RunsOn go w n b h
  pub others : (k a : ℕ) → k < h.count → is_turn_at h b go.channel k ≡ false → Uses w a →
      LeavesByte memory k a
  pub meets : (k a : ℕ) → k < h.count → is_turn_at h b go.channel k ≡ true → Uses w a →
      Meets memory h k a
  pub below : (k : ℕ) → k < h.count → is_turn_at h b go.channel k ≡ true →
      work_below w (length (image_in (h.lent k))) ≡ true
  pub fits : work_below w (length (memory 0)) ≡ true

-- ---- laws

-- The channel's turns run the copy. So all that is proved of such turns holds on the board. What it supposes of
-- regions, such as `IsFit`, it supposes of these turns only. It speaks of the regions of these turns. By `Meets` they
-- have the memory's bytes at the addresses that w uses, and by `BoardRests` these stay until the next turn.
abbrev pub BoardRunsCopy : Type 0
BoardRunsCopy =
    (go : Go) (w : Work) (n b : ℕ) (h : BoardEvents) (memory : ℕ → List ℕ) →
    CopiesOn go w n b h memory → RunsCopy go w n (turns_of h b go.channel)

-- Before event number k two things are as they were before event number i: the memory's bytes at addresses that w uses,
-- and the channel's thread, if event number i comes after the DMAGO.
pub record Rests (go : Go) (w : Work) (b : ℕ) (h : BoardEvents) (memory : ℕ → List ℕ) (i k : ℕ) :
    Type 0 where
  pub thread : 0 < i →
      slice_get (h.before k b).threads go.channel ≡ slice_get (h.before i b).threads go.channel
  pub bytes : (a : ℕ) → Uses w a → slice_index (memory k) a ≡ slice_index (memory i) a

-- A channel rests from event number i to event number k if none of the events between is a turn of the channel. So what
-- holds after a turn still holds before the next one, and the first turn finds what the DMAGO left.
abbrev pub BoardRests : Type 0
BoardRests =
    (go : Go) (w : Work) (n b : ℕ) (h : BoardEvents) (memory : ℕ → List ℕ) (i k : ℕ) →
    CopiesOn go w n b h memory → i ≤ k → k ≤ h.count →
    ((j : ℕ) → i ≤ j → j < k → is_turn_at h b go.channel j ≡ false) → Rests go w b h memory i k

-- Once the channel's CSR reads as stopped after an event, the work is done from the memory at the DMAGO.
abbrev pub ABoardCopies : Type 0
ABoardCopies =
    (go : Go) (w : Work) (n b : ℕ) (h : BoardEvents) (memory : ℕ → List ℕ) →
    CopiesOn go w n b h memory →
    (k : ℕ) → k < h.count → csr_status (h.before (k + 1) b) go.channel ≡ 0 →
    IsWorked w (memory 0) (memory (k + 1))

-- Each turn of the channel writes only destinations and zeros of the work, and reads only its sources, whatever other
-- events write, and whatever regions each event is lent.
abbrev pub BoardStaysIn : Type 0
BoardStaysIn =
    (go : Go) (w : Work) (n b : ℕ) (h : BoardEvents) (k most : ℕ) (turn : Turn) → RunsOn go w n b h →
    k < h.count → h.device k ≡ b → h.access k ≡ Turns go.channel most → h.answer k ≡ Turned turn →
    StaysIn w (h.before k b) (h.lent k) go.channel most turn

-- ---- what other events leave as it is

-- An event that isn't a turn of the channel leaves its thread as it is, if it is on another device or spares the
-- thread.
abbrev pub BoardLeavesThread : Type 0
BoardLeavesThread =
    (h : BoardEvents) (n b k : ℕ) → Happens h → k < h.count → is_turn_at h b n k ≡ false →
    (h.device k ≡ b → SparesThread n (h.access k) (h.before k b)) → LeavesThread h n b k

-- Suppose that an event writes no address that w uses. At each of these addresses at which it shares the memory, it
-- leaves the memory's byte as it is.
abbrev pub BoardLeavesBytes : Type 0
BoardLeavesBytes =
    (h : BoardEvents) (memory : ℕ → List ℕ) (w : Work) (k a : ℕ) → Happens h → k < h.count →
    SparesBytes w (h.access k) (h.answer k) → Uses w a → Shares memory h k a → LeavesByte memory k a

-- ---- several copies

-- the events from number s on
abbrev pub later : ℕ → BoardEvents → BoardEvents
later s h = record {
  count = h.count - s;
  access = λ k. h.access (s + k);
  device = λ k. h.device (s + k);
  answer = λ k. h.answer (s + k);
  before = λ k. h.before (s + k);
  lent = λ k. h.lent (s + k);
  left = λ k. h.left (s + k);
}

-- a work writes no address that another uses
abbrev pub WritesApart : (v w : Work) → Type 0
WritesApart v w = (a : ℕ) → Contains (written v) a → ¬ Uses w a

-- If event number s starts a program that v explains, then from there on the turns of its channel write no address that
-- w uses, if v writes none. So channels of any devices may copy at once, each in its own work.
abbrev pub BoardSpares : Type 0
BoardSpares =
    (go : Go) (v w : Work) (n b s : ℕ) (h : BoardEvents) → RunsOn go v n b (later s h) → WritesApart v w →
    (k : ℕ) → s ≤ k → k < h.count → is_turn_at h b go.channel k ≡ true →
    SparesBytes w (h.access k) (h.answer k)
