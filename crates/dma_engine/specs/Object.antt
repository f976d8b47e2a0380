-- The single-threaded object that models a DMA controller; for each entry of its history, what the entry requires of
-- the object and how it changes it.
use Rattle.std.specs.Prelude.{◌≡◌, ℕ, ◌+◌, ◌-◌, ◌<◌, ◌≤◌, if◌then◌else◌, Bool, true, false, nat_lt, Option, Some, None, IsSome, IsSomeAnd, MatchOption}
use Rattle.std.specs.Prelude.{unwrap_or, List, [], ◌∷◌, ◌++◌, length, map, take, drop, replicate, slice_get, slice_index_or, slice_set}
use Rattle.std.specs.List.{All, sum_by}
use Rattle.dma_mem.specs.{Limits.last_event, Places.Descriptor, Places.end_of_addresses, Places.lies_below, Places.size_of, Places.sources, Places.destinations}
use Rattle.dma_mem.specs.{Rules.IsTransfer, Image.put, Image.bytes_at, Image.laid, declared.segment.Segment.Segment, declared.marks.MarkKind.MarkKind}
use Rattle.dma_mem.specs.{declared.marks.MarkKind.TheVariants.Reading, declared.marks.MarkKind.TheVariants.Writing, Marking.meets_mark}
use Rattle.dma_engine.specs.declared.entry.Entry.TheVariants.{Wrote, ReadBack, Submitted, Issued, Passed, Signalled, Finished, Terminated, Marked, Unmarked}
use Rattle.dma_engine.specs.declared.entry.Signaller.TheVariants.{Channel, Host}
use Rattle.dma_engine.specs.declared.outcome.TransResult.TheVariants.{NoError, ReadFailed, WriteFailed, Aborted}
use Rattle.dma_engine.specs.{declared.entry.Entry.Entry, declared.outcome.Outcome.Outcome, declared.outcome.TransResult.TransResult}

-- ---- the object

-- The state of a channel: how many of its first cookies are forgotten, which means that they finished before the
-- history begins and are only counted; the transfers submitted after those, in the order of their cookies; how many of
-- its cookies are issued; the outcomes of the cookies that are finished and not forgotten; whether the front has passed
-- the event that it waits for; whether it has signalled its event; and whether a failure has halted the channel.
-- (Queue, cookies and issue: dmaengine client documentation; events, halting and what is forgotten: profile.)
pub record ChannelState : Type 0 where
  pub forgotten : ℕ
  pub submitted : List Descriptor
  pub issued : ℕ
  pub outcomes : List Outcome
  pub passed : Bool
  pub signalled : Bool
  pub halted : Bool

-- The single-threaded object: an image of the memory, the flag of each event, the marked ranges, and its channels.
pub record Object : Type 0 where
  pub image : List ℕ
  pub events : List Bool
  pub marks : List (MarkKind × Segment)
  pub channels : List ChannelState

-- a channel to which nothing was submitted
abbrev pub empty_channel : ChannelState
empty_channel =
    record { forgotten = 0; submitted = []; issued = 0; outcomes = []; passed = false; signalled = false; halted = false }

-- The opening object: a memory of zeros, 32 clear flags (PL330 manual, DMASEV and DMAWFE), no marks, and channels to
-- which nothing was submitted.
unfoldable pub opening : ℕ → ℕ → Object
opening size channels =
    record { image = replicate size 0; events = replicate 32 false; marks = []; channels = replicate channels empty_channel }

-- the channel with this number, or one to which nothing was submitted if there is none
abbrev pub channel : Object → ℕ → ChannelState
channel o ch = slice_index_or o.channels ch empty_channel

-- the object with one channel changed
abbrev pub with_channel : Object → ℕ → ChannelState → Object
with_channel o ch c = record o { channels = slice_set o.channels ch c }

-- whether the flag of an event is set
abbrev pub is_set : Object → ℕ → Bool
is_set o event = slice_index_or o.events event false

-- the object with the flag of an event set or cleared
abbrev pub with_flag : Object → ℕ → Bool → Object
with_flag o event flag = record o { events = slice_set o.events event flag }

-- how many cookies a channel has given
abbrev pub used : ChannelState → ℕ
used c = c.forgotten + length c.submitted

-- how many cookies of a channel are finished
abbrev pub finished : ChannelState → ℕ
finished c = c.forgotten + length c.outcomes

-- how many cookies of a channel aren't finished
abbrev pub unfinished : ChannelState → ℕ
unfinished c = used c - finished c

-- how many cookies are finished on all channels together
abbrev pub finished_all : Object → ℕ
finished_all o = sum_by finished o.channels

-- The front of a channel is its first submitted transfer without an outcome.
abbrev pub front : ChannelState → Option Descriptor
front c = slice_get c.submitted (length c.outcomes)

-- the front if it is issued
abbrev pub issued_front : ChannelState → Option Descriptor
issued_front c = if nat_lt (finished c) c.issued then front c else None

-- ---- what an entry requires

-- the channel isn't halted, and its front is issued and satisfies P
abbrev pub FrontIs : ChannelState → (Descriptor → Type 0) → Type 0
FrontIs c P = (c.halted ≡ false) × IsSomeAnd (issued_front c) P

-- the front has passed its event, if it waits for one
abbrev pub HasPassed : ChannelState → Descriptor → Type 0
HasPassed c t = IsSome t.wait → c.passed ≡ true

-- the front has signalled its event, if it has one
abbrev pub HasSignalled : ChannelState → Descriptor → Type 0
HasSignalled c t = IsSome t.signal → c.signalled ≡ true

-- the largest cookie of a channel (profile)
abbrev pub last_cookie : ℕ
last_cookie = 2147483647

-- The front can fail after `done` bytes: it is issued, its channel isn't halted, it has passed its event if it waits
-- for one and has not signalled, fewer bytes than its size are stored, and one of the next 256 places lies in a mark of
-- that kind. A burst has at most 256 bytes, the size of the channel's buffer (profile).
abbrev pub CanFail : Object → ChannelState → MarkKind → (Descriptor → List ℕ) → ℕ → Type 0
CanFail o c kind side done =
    FrontIs c (λ t.
    HasPassed c t × (c.signalled ≡ false) × (done < size_of t)
    × (meets_mark kind o.marks (take 256 (drop done (side t))) ≡ true))

-- How many bytes of the front can be stored when its channel is terminated: at most its size; 0 if no front is issued,
-- if the channel is halted, or if the front waits and hasn't passed its event; all bytes if it has signalled.
abbrev pub CanHaveStored : ChannelState → ℕ → Type 0
CanHaveStored c done =
    MatchOption (issued_front c) (done ≡ 0) (λ t.
    (done ≤ size_of t) × (c.halted ≡ true → done ≡ 0) × (IsSome t.wait → c.passed ≡ false → done ≡ 0)
    × (c.signalled ≡ true → done ≡ size_of t))

-- a range that can be marked: it isn't empty, and ends at 2^32 or below (PL330 manual, SAR and DAR)
abbrev pub IsMark : Segment → Type 0
IsMark s = (0 < s.len) × (s.addr + s.len ≤ end_of_addresses)

-- What an entry requires of the object that it changes.
abbrev pub Allows : Object → Entry → Type 0
Allows o (Wrote addr bytes) = addr + length bytes ≤ length o.image
Allows o (ReadBack addr bytes) =
    (addr + length bytes ≤ length o.image) × (bytes ≡ take (length bytes) (drop addr o.image))
Allows o (Submitted ch t cookie) =
    (ch < length o.channels) × IsTransfer t × (lies_below t (length o.image) ≡ true)
    × (cookie ≡ used (channel o ch) + 1) × (cookie ≤ last_cookie)
Allows o (Issued ch) = ch < length o.channels
Allows o (Passed ch event) =
    FrontIs (channel o ch) (λ t.
    (t.wait ≡ Some event) × ((channel o ch).passed ≡ false) × (slice_get o.events event ≡ Some true))
Allows o (Signalled (Channel ch) event) =
    FrontIs (channel o ch) (λ t.
    HasPassed (channel o ch) t × (t.signal ≡ Some event) × ((channel o ch).signalled ≡ false))
Allows o (Signalled Host event) = event ≤ last_event
Allows o (Finished ch NoError done) =
    FrontIs (channel o ch) (λ t. HasPassed (channel o ch) t × HasSignalled (channel o ch) t × (done ≡ size_of t))
Allows o (Finished ch ReadFailed done) = CanFail o (channel o ch) Reading sources done
Allows o (Finished ch WriteFailed done) = CanFail o (channel o ch) Writing destinations done
Allows o (Finished ch Aborted done) = ⊥
Allows o (Terminated ch done count) =
    (ch < length o.channels) × (count ≡ unfinished (channel o ch)) × CanHaveStored (channel o ch) done
Allows o (Marked kind segment) = IsMark segment
Allows o Unmarked = Unit {0}

-- ---- the object after an entry

-- a transfer of nothing, for a channel without a front
abbrev pub no_transfer : Descriptor
no_transfer = record { fill = false; src = []; dst = []; wait = None; signal = None }

-- the front, or a transfer of nothing
abbrev pub front_of : ChannelState → Descriptor
front_of c = unwrap_or (front c) no_transfer

-- The outcome of a transfer with `done` bytes stored.
abbrev pub outcome_of : TransResult → Descriptor → ℕ → Outcome
outcome_of result t done = record { result = result; residue = size_of t - done }

-- the outcomes of transfers that are all aborted, with `done` bytes of the first one stored
abbrev pub aborted : ℕ → List Descriptor → List Outcome
aborted done [] = []
aborted done (t ∷ ts) = outcome_of Aborted t done ∷ map (λ u. outcome_of Aborted u 0) ts

-- whether a result is a failure, which halts the channel (profile)
abbrev pub is_failure : TransResult → Bool
is_failure ReadFailed = true
is_failure WriteFailed = true
is_failure _ = false

-- the object whose image is the one after a simultaneous copy of the front's first bytes
abbrev pub with_front_laid : Object → ℕ → ℕ → Object
with_front_laid o ch done = record o { image = laid o.image (front_of (channel o ch)) done }

-- the channel with one more transfer
abbrev pub with_transfer : ChannelState → Descriptor → ChannelState
with_transfer c t = record c { submitted = c.submitted ++ t ∷ [] }

-- the channel after its front has finished, with this result and `done` bytes stored
abbrev pub with_outcome : ChannelState → TransResult → ℕ → ChannelState
with_outcome c result done =
    record c {
      outcomes = c.outcomes ++ outcome_of result (front_of c) done ∷ [];
      passed = false;
      signalled = false;
      halted = is_failure result;
    }

-- the channel after a terminate, with `done` bytes of the front stored
abbrev pub with_all_aborted : ChannelState → ℕ → ChannelState
with_all_aborted c done =
    record c {
      issued = used c;
      outcomes = c.outcomes ++ aborted done (drop (length c.outcomes) c.submitted);
      passed = false;
      signalled = false;
      halted = false;
    }

-- The object after an entry. Everything that isn't mentioned is unchanged.
abbrev pub after : Object → Entry → Object
after o (Wrote addr bytes) = record o { image = put o.image (bytes_at addr bytes) }
after o (ReadBack addr bytes) = o
after o (Submitted ch t cookie) = with_channel o ch (with_transfer (channel o ch) t)
after o (Issued ch) = with_channel o ch (record (channel o ch) { issued = used (channel o ch) })
after o (Passed ch event) = with_channel (with_flag o event false) ch (record (channel o ch) { passed = true })
after o (Signalled (Channel ch) event) =
    with_channel (with_flag o event true) ch (record (channel o ch) { signalled = true })
after o (Signalled Host event) = with_flag o event true
after o (Finished ch result done) =
    with_channel (with_front_laid o ch done) ch (with_outcome (channel o ch) result done)
after o (Terminated ch done count) = with_channel (with_front_laid o ch done) ch (with_all_aborted (channel o ch) done)
after o (Marked kind segment) = record o { marks = o.marks ++ (kind, segment) ∷ [] }
after o Unmarked = record o { marks = [] }

-- ---- a base

-- The base of a channel: its finished cookies are forgotten.
abbrev pub forget : ChannelState → ChannelState
forget c = record c { forgotten = finished c; submitted = drop (length c.outcomes) c.submitted; outcomes = [] }

-- The base of an object, from which a history begins.
abbrev pub base_from : Object → Object
base_from o = record o { channels = map forget o.channels }

-- A channel that can be in a base: no outcome is known, the front has neither passed nor signalled, all finished
-- cookies are issued, all issued cookies are given, no cookie is above the last one, and the unfinished transfers obey
-- the rules and lie below the memory's size.
pub record IsBaseChannel (size : ℕ) (c : ChannelState) : Type 0 where
  pub outcomes : c.outcomes ≡ []
  pub rests : (c.passed ≡ false) × (c.signalled ≡ false)
  pub counts : (finished c ≤ c.issued) × (c.issued ≤ used c) × (used c ≤ last_cookie)
  pub rules : All (λ t. IsTransfer t × (lies_below t size ≡ true)) c.submitted

-- An object that can be a base: it has 32 flags, its marks are ranges that can be marked, and each channel can be in a
-- base.
pub record IsBase (o : Object) : Type 0 where
  pub flags : length o.events ≡ 32
  pub marks : All (λ m. IsMark m.1) o.marks
  pub each : (ch : ℕ) → IsBaseChannel (length o.image) (channel o ch)
