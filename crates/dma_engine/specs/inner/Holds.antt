-- The invariant of an engine: its parts match its view.
use Rattle.std.specs.Prelude.{◌≡◌, ℕ, ◌+◌, ◌-◌, ◌<◌, ◌++◌, ◌∷◌, Bool, false, Option, Some, None, List, [], length, map, take, slice_get, slice_index}
use Rattle.std.specs.Prelude.{slice_index_or, IfSome, IsSomeAnd}
use Rattle.std.specs.Option.{option_map}
use Rattle.dma_chan.specs.{Compiled.compiled, inner.At.IsAt, Ready.OnPages}
use Rattle.dma_mem.specs.{Marking.MarkList, Places.Descriptor, Places.destinations}
use Rattle.dma_engine.specs.Object.{Object, ChannelState, channel, front, no_transfer}
use Rattle.dma_engine.specs.View.{View, ChannelSchedule, RunningTransfer, IsSound, object_of, memory_of, runs}
use Rattle.dma_engine.specs.{declared.entry.Entry.Entry, declared.entry.Entry.TheVariants.Submitted, declared.outcome.Outcome.Outcome}
use Rattle.dma_engine.specs.{declared.queue.Queue.Queue, declared.access.Ranges.Ranges, inner.Ranges.AreOfRunning}
use Rattle.dma_chan.specs.Channel.{ChannelValue, loaded, unloaded as no_program}

-- the parts of an engine; of its memory, the image and which pages are made
pub record Parts : Type 0 where
  pub size : ℕ
  pub memory : List ℕ
  pub made : List Bool
  pub events : List Bool
  pub marks : MarkList
  pub queues : List Queue
  pub base : Object
  pub history : List Entry
  pub steps : ℕ

-- how many instructions a channel's machine has executed, if a program is loaded
abbrev pub taken_of : ChannelValue → Option ℕ
taken_of m = option_map (λ _. m.taken) m.program

-- the schedule of a channel
abbrev pub schedule_of : Queue → ChannelSchedule
schedule_of q = record { paused = q.paused; taken = taken_of q.channel }

-- the view of an engine with these parts
abbrev pub view_of : Parts → View
view_of p =
    record {
      base = p.base;
      history = p.history;
      steps = p.steps;
      schedule = map schedule_of p.queues;
    }

-- the object that they show
abbrev pub object_in : Parts → Object
object_in p = object_of (view_of p)

-- the state of a channel
abbrev pub state_in : Parts → ℕ → ChannelState
state_in p ch = channel (object_in p) ch

-- what runs on a channel
abbrev pub runs_in : Parts → ℕ → Option RunningTransfer
runs_in p ch = runs (object_in p) (view_of p).schedule ch

-- a queue to which nothing was submitted
abbrev pub new_queue : Queue
new_queue =
    record {
      forgotten = 0;
      given = 0;
      indices = record { items = []; spare = 0 };
      outcomes = record { items = []; spare = 0 };
      issued = 0;
      paused = false;
      halted = false;
      channel = no_program;
      ranges = None;
    }

-- a queue that has given one more cookie, whose transfer the history's entry at this index gives
abbrev pub queue_submitted : Queue → ℕ → ℕ → ℕ → Queue
queue_submitted q spare index cookie =
    record q { given = cookie; indices = record { items = q.indices.items ++ index ∷ []; spare = spare } }

-- a queue whose front starts; the front is this transfer and has these ranges
abbrev pub queue_started : Queue → Descriptor → Ranges → Queue
queue_started q t r = record q { channel = loaded (compiled t); ranges = Some r }

-- a queue on which nothing runs
abbrev pub queue_stopped : Queue → Queue
queue_stopped q = record q { channel = record (q.channel) { program = None }; ranges = None }

-- a queue whose front has finished with this outcome
abbrev pub queue_finished : Queue → ℕ → Outcome → Bool → Queue
queue_finished q spare outcome halted =
    record q {
      outcomes = record { items = q.outcomes.items ++ outcome ∷ []; spare = spare };
      halted = halted;
      channel =
          record (q.channel) { program = None };
      ranges = None;
    }

-- a queue whose unfinished cookies all have these outcomes
abbrev pub queue_terminated : Queue → ℕ → List Outcome → ℕ → Queue
queue_terminated q spare outcomes issued =
    record q {
      outcomes = record { items = q.outcomes.items ++ outcomes; spare = spare };
      issued = issued;
      paused = false;
      halted = false;
      channel =
          record (q.channel) { program = None };
      ranges = None;
    }

-- a queue with one more outcome, and this room for others
abbrev pub queue_with_outcome : Queue → ℕ → Outcome → Queue
queue_with_outcome q spare outcome =
    record q { outcomes = record { items = q.outcomes.items ++ outcome ∷ []; spare = spare } }

-- a queue with this room for outcomes
abbrev pub queue_with_room : Queue → ℕ → Queue
queue_with_room q spare = record q { outcomes = record { items = q.outcomes.items; spare = spare } }

-- how many cookies of a queue aren't finished
abbrev pub unfinished_of : Queue → ℕ
unfinished_of q = q.given - q.forgotten - length q.outcomes.items

-- the loaded program, if any, is that of the channel's front, and the machine has executed `taken` instructions of it
-- over this memory
abbrev pub IsRun : List ℕ → ChannelValue → ChannelState → Type 0
IsRun memory m c = IfSome m.program (λ _. IsSomeAnd (front c) (λ t. IsAt t m.taken memory m))

-- a queue after a checkpoint
abbrev pub queue_forgotten : Queue → Queue
queue_forgotten q =
    record q {
      forgotten = q.forgotten + length q.outcomes.items;
      indices = record { items = []; spare = 0 };
      outcomes = record { items = []; spare = 0 };
    }

-- A queue with these counts and indices has the cookies that its channel gave: `before` forgotten ones, then those with
-- these transfers. First come the transfers that the base has of the channel, then those of the Submitted entries with
-- these indices.
pub record HasSubmitted (ch : ℕ) (kept : List Descriptor) (history : List Entry) (lost number : ℕ) (indices : List ℕ) (before : ℕ)
    (submitted : List Descriptor) : Type 0 where
  pub forgotten : lost ≡ before
  pub given : number ≡ before + length submitted
  pub many : length submitted ≡ length kept + length indices
  pub first : take (length kept) submitted ≡ kept
  pub indexed : (k : ℕ) → k < length indices →
      (cookie : ℕ) × (slice_get history (slice_index indices k)
      ≡ Some (Submitted ch (slice_index_or submitted (length kept + k) no_transfer) cookie))

-- A queue matches the state of its channel.
pub record IsQueue (ch : ℕ) (kept : List Descriptor) (history : List Entry) (memory : List ℕ) (q : Queue) (c : ChannelState) : Type 0 where
  pub submitted : HasSubmitted ch kept history q.forgotten q.given q.indices.items c.forgotten c.submitted
  pub open submitted use *
  pub outcomes : q.outcomes.items ≡ c.outcomes
  pub issued : q.issued ≡ c.issued
  pub halted : q.halted ≡ c.halted
  pub machine : IsRun memory q.channel c

-- Each destination of the running transfer, if any, lies on a page that is made.
abbrev pub IsPrepared : List Bool → Option RunningTransfer → Type 0
IsPrepared made x = IfSome x (λ r. OnPages made (destinations r.transfer))

-- The view is sound; the memory is the one that it shows; the flags and marks are the object's; each queue matches its
-- channel; the destinations of running transfers lie on pages that are made; and each queue keeps the ranges of what
-- runs on its channel.
pub record Holds (p : Parts) : Type 0 where
  pub sound : IsSound (view_of p)
  pub size : p.size ≡ length p.base.image
  pub shown : p.memory ≡ memory_of (view_of p)
  pub events : p.events ≡ (object_in p).events
  pub marks : p.marks ≡ (object_in p).marks
  pub each : (ch : ℕ) (d : Queue) → ch < length p.queues →
      IsQueue ch (channel p.base ch).submitted p.history p.memory (slice_index_or p.queues ch d) (state_in p ch)
  pub prepared : (ch : ℕ) → IsPrepared p.made (runs_in p ch)
  pub ranges : (ch : ℕ) (d : Queue) → ch < length p.queues →
      AreOfRunning (slice_index_or p.queues ch d).ranges (runs_in p ch)
