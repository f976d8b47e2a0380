-- What contracts see of an engine: its history, its step count and its schedule.
use Rattle.std.specs.Prelude.{◌≡◌, ◌≢◌, ℕ, ◌+◌, ◌-◌, ◌<◌, ◌==◌, ◌||◌, if◌then◌else◌, Bool, true, false, ◌&&◌, not, nat_lt, Option, Some, None, is_some, List}
use Rattle.std.specs.Prelude.{[], length, map, replicate, slice_index_or}
use Rattle.std.specs.{Option.option_map, List.filter_map, List.range_with_len}
use Rattle.dma_mem.specs.{Limits.most_channels, Places.Descriptor, Places.is_free_of, Image.over, Image.is_size}
use Rattle.dma_engine.specs.Object.{Object, ChannelState, IsBase, channel, finished, front, FrontIs, opening}
use Rattle.dma_engine.specs.{declared.entry.Entry.Entry, declared.fault.NewFault.NewFault, declared.fault.NewFault.TheVariants.BadChannels}
use Rattle.dma_engine.specs.{declared.fault.NewFault.TheVariants.SizeOutOfRange, declared.turn.Running.Running, History.object_after, History.IsLegal}
use Rattle.dma_chan.specs.{Compiled.cost, Traffic.stored_after}

-- whether a channel is paused, and how many instructions its front has executed if it runs
pub record ChannelSchedule : Type 0 where
  pub paused : Bool
  pub taken : Option ℕ

-- The base, which is the object before the history; the history; the step count; and the schedule of each channel.
pub record View : Type 0 where
  pub base : Object
  pub history : List Entry
  pub steps : ℕ
  pub schedule : List ChannelSchedule

-- how many more indices and outcomes a channel's lists have room for
pub record QueueRoom : Type 0 where
  pub indices : ℕ
  pub outcomes : ℕ

-- how many more entries the history has room for, and the room of each channel
pub record Room : Type 0 where
  pub entries : ℕ
  pub queues : List QueueRoom

-- What contracts see of an engine: its view, the bytes of its memory, and the room that was made.
pub record EngineState : Type 0 where
  pub view : View
  pub memory : List ℕ
  pub room : Room

-- the schedule of a channel that isn't paused and on which nothing runs
abbrev pub idle : ChannelSchedule
idle = record { paused = false; taken = None }

-- the object after the history
abbrev pub object_of : View → Object
object_of v = object_after v.base v.history

-- the state of a channel
abbrev pub state_at : View → ℕ → ChannelState
state_at v ch = channel (object_of v) ch

-- the schedule of a channel, or an idle one if there is no such channel
abbrev pub schedule_at : View → ℕ → ChannelSchedule
schedule_at v ch = slice_index_or v.schedule ch idle

-- how many bytes the memory has
abbrev pub size : View → ℕ
size v = length (object_of v).image

-- how many channels there are
abbrev pub channels : View → ℕ
channels v = length (object_of v).channels

-- ---- what runs

-- a running transfer with its channel and cookie, and how many instructions it has executed
pub record RunningTransfer : Type 0 where
  pub ch : ℕ
  pub cookie : ℕ
  pub transfer : Descriptor
  pub taken : ℕ

-- what runs on a channel in this state, if its front has executed this number of instructions
abbrev pub running_in : ℕ → ChannelState → Option ℕ → Option RunningTransfer
running_in ch c None = None
running_in ch c (Some taken) =
    option_map (λ t. record { ch = ch; cookie = finished c + 1; transfer = t; taken = taken }) (front c)

-- what runs on a channel
abbrev pub runs : Object → List ChannelSchedule → ℕ → Option RunningTransfer
runs o schedule ch = running_in ch (channel o ch) (slice_index_or schedule ch idle).taken

-- the running transfers, from the lowest channel on
unfoldable pub running : Object → List ChannelSchedule → List RunningTransfer
running o schedule = filter_map (runs o schedule) (range_with_len 0 (length o.channels))

-- a running transfer with the number of bytes that it has stored
abbrev pub with_stored : RunningTransfer → Descriptor × ℕ
with_stored r = (r.transfer, stored_after r.transfer r.taken)

-- the memory: the image, with the bytes that running transfers have stored so far, each at its destination
abbrev pub memory_shown : Object → List ChannelSchedule → List ℕ
memory_shown o schedule = over o.image (map with_stored (running o schedule))

-- the memory of a view
abbrev pub memory_of : View → List ℕ
memory_of v = memory_shown (object_of v) v.schedule

-- the cookie that runs on a channel, and how many of its bytes are stored
abbrev pub running_on : View → ℕ → Option Running
running_on v ch =
    option_map (λ r. record { cookie = r.cookie; stored = stored_after r.transfer r.taken })
    (runs (object_of v) v.schedule ch)

-- ---- which views are sound

-- The state of a channel agrees with its schedule. If nothing runs, its front has neither passed nor signalled. If the
-- front runs, it is issued, its channel isn't halted, and it hasn't executed all its instructions; it has passed
-- exactly if it waits and has executed at least one instruction, and has signalled exactly if it signals and has only
-- its last instruction left.
abbrev pub Agrees : ChannelState → Option ℕ → Type 0
Agrees c None = (c.passed ≡ false) × (c.signalled ≡ false)
Agrees c (Some taken) =
    FrontIs c (λ t.
    (taken < cost t) × (c.passed ≡ (is_some t.wait && nat_lt 0 taken))
    × (c.signalled ≡ (is_some t.signal && taken == cost t - 1)))

-- two running transfers, if both exist, are free of each other
abbrev pub AreFree : Option RunningTransfer → Option RunningTransfer → Type 0
AreFree (Some r) (Some s) = is_free_of r.transfer s.transfer ≡ true
AreFree _ _ = Unit {0}

-- A schedule fits an object: it has an entry for each channel, each entry agrees with the state of its channel, and the
-- running transfers are free of each other.
pub record Fits (o : Object) (schedule : List ChannelSchedule) : Type 0 where
  pub many : length schedule ≡ length o.channels
  pub each : (ch : ℕ) → ch < length o.channels → Agrees (channel o ch) (slice_index_or schedule ch idle).taken
  pub free : (c d : ℕ) → c < length o.channels → d < length o.channels → c ≢ d →
      AreFree (runs o schedule c) (runs o schedule d)

-- The first reason to make no engine of this size and number of channels: not 1 to 8 channels (PL330 manual, the number
-- of channel threads is configurable), or a size that a memory can't have.
abbrev pub new_fault : ℕ → ℕ → Option NewFault
new_fault bytes many =
    if many == 0 || nat_lt most_channels many then Some BadChannels else (if not (is_size bytes) then Some SizeOutOfRange else None)

-- the view of a new engine
abbrev pub new_view : ℕ → ℕ → View
new_view bytes many = record { base = opening bytes many; history = []; steps = 0; schedule = replicate many idle }

-- A view is sound: its base can be one, with the size and the number of channels of an engine that can be made; the
-- history is legal from it; and the schedule fits the object after it.
pub record IsSound (v : View) : Type 0 where
  pub opens : IsBase v.base
  pub makes : new_fault (length v.base.image) (length v.base.channels) ≡ None
  pub legal : IsLegal v.base v.history
  pub fits : Fits (object_of v) v.schedule
