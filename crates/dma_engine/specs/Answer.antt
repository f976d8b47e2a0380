-- The answer to each call.
use Rattle.std.specs.Prelude.{◌≡◌, ◌≤◌, ◌⊎◌, ℕ, ◌+◌, ◌-◌, if◌then◌else◌, ◌==◌, ◌||◌, Bool, true, false, nat_lt, nat_le, not, is_none, Option, Some, None}
use Rattle.std.specs.Prelude.{Result, Ok, Err, List, [], ◌∷◌, ◌++◌, length, take, drop, slice_get, slice_set, find}
use Rattle.std.specs.Option.{option_map, option_map_or}
use Rattle.dma_mem.specs.Places.{Descriptor, end_of_addresses, touches, writes, lies_below}
use Rattle.dma_mem.specs.{Limits.last_event, declared.segment.Segment.Segment, declared.call.Call.Call}
use Rattle.dma_engine.specs.declared.entry.Entry.TheVariants.{Wrote, ReadBack, Submitted, Issued, Signalled, Terminated, Marked, Unmarked}
use Rattle.dma_engine.specs.declared.turn.Status.TheVariants.{Unknown, InProgress, Complete}
use Rattle.dma_engine.specs.declared.fault.EngineFault.TheVariants.{OutOfMemoryRange, Busy, Running, NoChannel, CookiesSpent, BadEvent, BadRange, NoMemory}
use Rattle.dma_engine.specs.Object.{Object, base_from, channel, used, finished, unfinished, last_cookie}
use Rattle.dma_engine.specs.View.{View, RunningTransfer, object_of, schedule_at, size, channels, idle, runs, running, state_at}
use Rattle.dma_engine.specs.{declared.entry.Entry.Entry, declared.entry.Signaller.TheVariants.Host, declared.call.Reply.Reply, declared.turn.Turn.Turn}
use Rattle.dma_engine.specs.{declared.turn.Turn.TheVariants.Started, declared.fault.EngineFault.EngineFault, declared.fault.SubmitFault.SubmitFault}
use Rattle.dma_engine.specs.{declared.outcome.Outcome.Outcome, Turn.with_entry, Turn.turn}
use Rattle.dma_chan.specs.Traffic.{stored_after}
use Rattle.dma_mem.specs.declared.call.Call.TheVariants.{Write, Read, Submit, Issue, Pause, Resume, Terminate, Step, Status, Mark, Unmark, Raise, Checkpoint}
use Rattle.dma_mem.specs.declared.call.Call.TheVariants.{Result as ResultOf}
use Rattle.dma_engine.specs.declared.call.Reply.TheVariants.{Done, Bytes, Cookie, Count, Turned, State, Result as Resulted, Refused}
use Rattle.dma_engine.specs.declared.turn.Status.{Status as EngineStatus}

-- ---- the first cause of a refusal, if any

-- this cause if it applies, otherwise the one that the others give
abbrev pub cause : Bool → EngineFault → Option EngineFault → Option EngineFault
cause holds fault others = if holds then Some fault else others

-- the fault that names a running transfer by its channel and cookie, if any
abbrev pub busy : Option RunningTransfer → Option EngineFault
busy found = option_map (λ r. Busy r.ch r.cookie) found

-- the first running transfer, from the lowest channel on, that satisfies a test
abbrev pub first_running : View → (Descriptor → Bool) → Option RunningTransfer
first_running v test = find (λ r. test r.transfer) (running (object_of v) v.schedule)

-- why a call on a range is refused: the range ends above the memory, or a running transfer satisfies the test
abbrev pub range_fault : View → ℕ → ℕ → (Segment → Descriptor → Bool) → Option EngineFault
range_fault v addr n test =
    cause (nat_lt (size v) (addr + n)) OutOfMemoryRange (busy (first_running v (test (record { addr = addr; len = n }))))

-- why a write is refused: its range ends above the memory, or a running transfer reads or writes a byte of it
abbrev pub write_fault : View → ℕ → ℕ → Option EngineFault
write_fault v addr n = range_fault v addr n (λ s t. touches t s)

-- why a read is refused: its range ends above the memory, or a running transfer writes a byte of it
abbrev pub read_fault : View → ℕ → ℕ → Option EngineFault
read_fault v addr n = range_fault v addr n (λ s t. writes t s)

-- why a call on a channel is refused: there is no such channel
abbrev pub channel_fault : View → ℕ → Option EngineFault
channel_fault v ch = cause (nat_le (channels v) ch) NoChannel None

-- why a submit is refused: there is no such channel, a segment ends above the memory, or the channel has given its last
-- cookie
abbrev pub submit_fault : View → ℕ → Descriptor → Option EngineFault
submit_fault v ch t =
    cause (nat_le (channels v) ch) NoChannel (
    cause (not (lies_below t (size v))) OutOfMemoryRange (
    cause (nat_le last_cookie (used (state_at v ch))) CookiesSpent None))

-- the cookie, or the first cause
abbrev pub checked : Option EngineFault → ℕ → Result ℕ EngineFault
checked None cookie = Ok cookie
checked (Some fault) cookie = Err fault

-- why a mark is refused: the range is empty or ends above 2^32 (PL330 manual, 32-bit addresses)
abbrev pub mark_fault : Segment → Option EngineFault
mark_fault s = cause (s.len == 0 || nat_lt end_of_addresses (s.addr + s.len)) BadRange None

-- why a raise is refused: the event is above 31 (PL330 manual, DMASEV and DMAWFE)
abbrev pub raise_fault : ℕ → Option EngineFault
raise_fault event = cause (nat_lt last_event event) BadEvent None

-- why a checkpoint is refused: a transfer runs, and the first one is named
abbrev pub checkpoint_fault : View → Option EngineFault
checkpoint_fault v = option_map (λ r. Running r.ch r.cookie) (first_running v (λ _. true))

-- ---- what a call does if nothing refuses it

-- the view after a checkpoint: the present object is the base, and the history is empty
abbrev pub checkpointed : View → View
checkpointed v = record v { base = base_from (object_of v); history = [] }

-- the view with a channel's pause set or ended
abbrev pub with_pause : View → ℕ → Bool → View
with_pause v ch paused = record v { schedule = slice_set v.schedule ch (record (schedule_at v ch) { paused = paused }) }

-- how many bytes the front of a channel has stored, or 0 if nothing runs on it
abbrev pub done_on : View → ℕ → ℕ
done_on v ch = option_map_or (λ r. stored_after r.transfer r.taken) (runs (object_of v) v.schedule ch) 0

-- the view after a terminate: all unfinished cookies are aborted, and the channel neither runs nor is paused
abbrev pub terminated : View → ℕ → View
terminated v ch =
    record (with_entry v (Terminated ch (done_on v ch) (unfinished (state_at v ch)))) {
      schedule = slice_set v.schedule ch idle;
    }

-- The status of a cookie (profile) of a channel that has given `used` cookies and finished `finished`: Unknown for 0 and
-- above `used`, else Complete up to `finished`, else InProgress.
abbrev pub status_by : ℕ → ℕ → ℕ → EngineStatus
status_by used finished cookie =
    if cookie == 0 || nat_lt used cookie then Unknown
    else (if nat_le cookie finished then Complete else InProgress)

-- the status of a cookie
abbrev pub status_in : View → ℕ → ℕ → EngineStatus
status_in v ch cookie = let c = state_at v ch in status_by (used c) (finished c) cookie

-- how a cookie finished, or None if it hasn't finished or is forgotten
abbrev pub result_of : Object → ℕ → ℕ → Option Outcome
result_of o ch cookie =
    let c = channel o ch in
    if nat_le cookie c.forgotten then None else slice_get c.outcomes (cookie - c.forgotten - 1)

-- the reply to a call that returns a result: `reply` of the value, or Refused
abbrev pub reply_of : {T : Type 0} → (T → Reply) → Result T EngineFault → Reply
reply_of reply (Ok x) = reply x
reply_of reply (Err fault) = Refused fault

-- the reply to a call that returns nothing
abbrev pub done_reply : {T : Type 0} → Result T EngineFault → Reply
done_reply result = reply_of (λ _. Done) result

-- the reply to a call that returns a count
abbrev pub count_reply : Result ℕ EngineFault → Reply
count_reply result = reply_of (λ count. Count count) result

-- the cookie that a submit returns, or the first cause of its refusal
abbrev pub next_cookie : View → ℕ → Descriptor → Result ℕ EngineFault
next_cookie v ch t = checked (submit_fault v ch t) (used (state_at v ch) + 1)

-- the bytes of a range of the object's image
abbrev pub bytes_in : View → ℕ → ℕ → List ℕ
bytes_in v addr len = take len (drop addr (object_of v).image)

-- the reply to a submit
abbrev pub submit_reply : Result ℕ SubmitFault → Reply
submit_reply (Ok cookie) = Cookie cookie
submit_reply (Err refused) = Refused refused.fault

-- the answer to a call with this fault, if any: a refusal doesn't change the view
abbrev pub unless : Option EngineFault → View → Reply × View → Reply × View
unless found v accepted = option_map_or (λ fault. (Refused fault, v)) found accepted

-- The answer to a call when memory doesn't run out, and the view after it. An accepted call adds its entry to the end
-- of the history, or none; a checkpoint empties the history.
abbrev pub answer : View → Call → Reply × View
answer v (Write addr bytes) = unless (write_fault v addr (length bytes)) v (Done, with_entry v (Wrote addr bytes))
answer v (Read addr len) =
    let bytes = bytes_in v addr len in
    unless (read_fault v addr len) v (Bytes bytes, with_entry v (ReadBack addr bytes))
answer v (Submit ch t) =
    let cookie = used (state_at v ch) + 1 in
    unless (submit_fault v ch t) v (Cookie cookie, with_entry v (Submitted ch t cookie))
answer v (Issue ch) =
    let c = state_at v ch in
    unless (channel_fault v ch) v (Count (used c - c.issued), with_entry v (Issued ch))
answer v (Pause ch) = unless (channel_fault v ch) v (Done, with_pause v ch true)
answer v (Resume ch) = unless (channel_fault v ch) v (Done, with_pause v ch false)
answer v (Terminate ch) = unless (channel_fault v ch) v (Count (unfinished (state_at v ch)), terminated v ch)
answer v (Step ch) = (reply_of Turned (turn v ch).0, (turn v ch).1)
answer v (Status ch cookie) = (State (status_in v ch cookie), v)
answer v (ResultOf ch cookie) = (Resulted (result_of (object_of v) ch cookie), v)
answer v (Mark kind segment) = unless (mark_fault segment) v (Done, with_entry v (Marked kind segment))
answer v Unmark = (Done, with_entry v Unmarked)
answer v (Raise event) = unless (raise_fault event) v (Done, with_entry v (Signalled Host event))
answer v Checkpoint = unless (checkpoint_fault v) v (Done, checkpointed v)

-- ---- when memory runs out

-- whether a reply says that a transfer started
abbrev pub is_started : Reply → Bool
is_started (Turned (Started cookie)) = true
is_started _ = false

-- whether a call stores a base: it is a checkpoint that nothing refuses
abbrev pub stores_base : View → Call → Bool
stores_base v Checkpoint = is_none (checkpoint_fault v)
stores_base v _ = false

-- Whether a call allocates memory: it adds an entry, starts a transfer or stores a base.
abbrev pub takes_memory : View → Call → Bool
takes_memory v call =
    stores_base v call || (is_started (answer v call).0 || nat_lt (length v.history) (length (answer v call).1.history))

-- A call has this reply, and this is the view after it. A call that allocates memory may instead be out of memory; then
-- no other cause applies, and the view is unchanged.
abbrev pub CallAnswers : View → Call → Reply → View → Type 0
CallAnswers old call (Refused NoMemory) new = (takes_memory old call ≡ true) × (new ≡ old)
CallAnswers old call reply new = (reply, new) ≡ answer old call

-- A step of a channel, which is a call, has this result, and this is the view after it.
abbrev pub StepAnswers : View → ℕ → Result Turn EngineFault → View → Type 0
StepAnswers old ch result new = CallAnswers old (Step ch) (reply_of Turned result) new

-- ---- lists of calls

-- Calls in order have these replies, one for each call, and this is the view after them.
abbrev pub AreAnswers : View → List Call → List Reply → View → Type 0
AreAnswers old [] [] new = new ≡ old
AreAnswers old (call ∷ calls) (reply ∷ replies) new =
    (next : View) × CallAnswers old call reply next × AreAnswers next calls replies new
AreAnswers old _ _ new = ⊥

-- whether a call is a checkpoint that was accepted
abbrev pub is_checkpoint : Call → Reply → Bool
is_checkpoint Checkpoint Done = true
is_checkpoint _ _ = false

-- whether a checkpoint among these calls was accepted
abbrev pub has_checkpoint : List Call → List Reply → Bool
has_checkpoint (call ∷ calls) (reply ∷ replies) = is_checkpoint call reply || has_checkpoint calls replies
has_checkpoint _ _ = false

-- The new history begins with the old one, and the base is the same.
abbrev pub Extends : View → View → Type 0
Extends old new = (new.base ≡ old.base) × ((more : List Entry) × (new.history ≡ old.history ++ more))

-- Every outcome that is known before is known after, and is the same.
abbrev pub KeepsOutcomes : View → View → Type 0
KeepsOutcomes old new =
    (ch cookie : ℕ) (x : Outcome) → result_of (object_of old) ch cookie ≡ Some x
    → result_of (object_of new) ch cookie ≡ Some x

-- Every outcome that is known before is the same after, unless its cookie is then forgotten.
abbrev pub Remembers : View → View → Type 0
Remembers old new =
    (ch cookie : ℕ) (x : Outcome) → result_of (object_of old) ch cookie ≡ Some x
    → (result_of (object_of new) ch cookie ≡ Some x) ⊎ (cookie ≤ (state_at new ch).forgotten)

-- the replies to calls in order, and the view after them, when memory doesn't run out
abbrev pub answers : View → List Call → List Reply × View
answers v [] = ([], v)
answers v (call ∷ calls) = let rest = answers (answer v call).1 calls in ((answer v call).0 ∷ rest.0, rest.1)
