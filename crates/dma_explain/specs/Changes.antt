-- Channels that share a memory, and what changes them and the memory, one change after another.
use Rattle.std.specs.Prelude.{◌≡◌, ◌≢◌, ℕ, ◌+◌, ◌≤◌, ◌<◌, ◌⊎◌, Bool, true, false, List, length, take, slice_index, Option, Some, None, IsSome}
use Rattle.std.specs.List.{Contains}
use Rattle.dma_mem.specs.Places.{Descriptor, sources, destinations, size_of, lies_below}
use Rattle.dma_mem.specs.{declared.segment.Segment.Segment, Image.laid, Marking.MarkList}
use Rattle.dma_chan.specs.{declared.exec.Registers.Registers, declared.turn.ChanTurn.ChanTurn, declared.turn.ChanTurn.TheVariants.Ended}
use Rattle.dma_chan.specs.{declared.turn.ChanTurn.TheVariants.Fault, declared.turn.ChanTurn.TheVariants.Waiting, declared.turn.FaultKind.FaultKind}
use Rattle.dma_chan.specs.{Channel.ChannelValue, Stepping.Machine, Stepping.TakesSteps, Stepping.signal_after, Stepping.written_after, Written.LiesIn}
use Rattle.dma_explain.specs.Explains.{Executes, Explains, IsCopy, IsLoadedWith, IsReached, IsSignal, IsWait, Work, all_of, cleared, only, written}
use Rattle.dma_explain.specs.{declared.explain.Amounts.Amounts, Works.MissesAll, Works.Uses}

-- Channels by number, and the memory that they share: the byte at each address.
pub record System : Type 0 where
  pub channels : ℕ → ChannelValue
  pub memory : ℕ → ℕ

-- A call that steps a channel: the channel's number, which addresses the call is lent, the marks at which bursts fail,
-- and the most steps; the channel with the lent memory and the flags, before the call (`found`) and after it (`left`);
-- and what it reports.
pub record Call : Type 0 where
  pub channel : ℕ
  pub lends : ℕ → Bool
  pub marks : MarkList
  pub most : ℕ
  pub found : Machine
  pub left : Machine
  pub taken : ℕ
  pub last : Option ChanTurn
  pub signal : Option ℕ
  pub written : Segment

-- What changes the system: a channel gets a value, by a load, an unload or a restore; a call steps a channel; or the
-- guest writes the memory.
pub data Change : Type 0 where
  Sets : ℕ → ChannelValue → Change
  Calls : Call → Change
  Guest : Change

-- all channels are as before, except this one
abbrev pub OthersStay : ℕ → System → System → Type 0
OthersStay ch before after = (other : ℕ) → other ≢ ch → after.channels other ≡ before.channels other

-- What a call on a loaded channel does and reports, as `lent::step_regions` promises it.
pub record DoesCall (call : Call) : Type 0 where
  pub is_loaded : IsSome call.found.channel.program
  pub steps : TakesSteps call.marks call.found call.most call.taken call.last call.left
  pub signal : call.signal ≡ signal_after call.marks call.found call.taken
  pub written : call.written ≡ written_after call.marks call.found call.taken

-- Before a call, `found` has the system's channel, and the memory's byte at each address that the call is lent. After
-- it, the system has the channel and these bytes of `left`. Nothing else changes. Each call may be lent other
-- addresses, in an image of another size.
pub record TakesCall (call : Call) (before after : System) : Type 0 where
  pub does : DoesCall call
  pub finds_channel : call.found.channel ≡ before.channels call.channel
  pub finds : (a : ℕ) → call.lends a ≡ true → slice_index call.found.image a ≡ before.memory a
  pub within : (a : ℕ) → call.lends a ≡ true → a < length call.found.image
  pub leaves_channel : after.channels call.channel ≡ call.left.channel
  pub leaves : (a : ℕ) → call.lends a ≡ true → after.memory a ≡ slice_index call.left.image a
  pub rest : (a : ℕ) → call.lends a ≡ false → after.memory a ≡ before.memory a
  pub others : OthersStay call.channel before after

-- what a change does
abbrev pub MakesChange : Change → System → System → Type 0
MakesChange (Sets ch c) before after =
    (after.channels ch ≡ c) × (OthersStay ch before after × ((a : ℕ) → after.memory a ≡ before.memory a))
MakesChange (Calls call) before after = TakesCall call before after
MakesChange Guest before after = (ch : ℕ) → after.channels ch ≡ before.channels ch

-- from change number `from` on, up to `count`, change number k leads from state k to state k + 1
abbrev pub DoesAll : (ℕ → Change) → (ℕ → System) → ℕ → ℕ → Type 0
DoesAll changes states from count = (k : ℕ) → from ≤ k → k < count → MakesChange (changes k) (states k) (states (k + 1))

-- ---- one program, since its load

-- a call is lent each address that a program's work uses
abbrev pub LendsAll : Work → Call → Type 0
LendsAll w call = (a : ℕ) → Uses w a → call.lends a ≡ true

-- A program that begins with these bytes is loaded into a channel by change number `load`, and change number `now` is a
-- call on this channel. This call is lent what the work uses, and each change between these two spares the work. What
-- happens before the load or after the call has no influence. `load` may also be a later change, before the channel's
-- first step, that gives the channel the value that it has: then others may write any byte before it.
pub record SinceLoad (start : Registers) (program : List ℕ) (w : Work) (changes : ℕ → Change) (states : ℕ → System)
    (load now : ℕ) (call : Call) (Spares : ℕ → Change → System → System → Type 0) : Type 0 where
  pub later : load < now
  pub loads : (c : ChannelValue) × IsLoadedWith start program c × (changes load ≡ Sets call.channel c)
  pub is_call : changes now ≡ Calls call
  pub lent : LendsAll w call
  pub spares : (k : ℕ) → load < k → k < now → Spares k (changes k) (states k) (states (k + 1))

-- each address that a work uses has the same byte as before
abbrev pub KeepsUsed : Work → System → System → Type 0
KeepsUsed w before after = (a : ℕ) → Uses w a → after.memory a ≡ before.memory a

-- A change leaves the work of a channel alone: it gives the channel no other value, so a restore of the value that the
-- channel has is allowed; a call on the channel is lent what the work uses; and anything else changes no byte there.
abbrev pub LeavesAlone : Work → ℕ → Change → System → System → Type 0
LeavesAlone w ch (Sets other c) before after = other ≡ ch → c ≡ before.channels ch
LeavesAlone w ch (Calls call) before after =
    (call.channel ≡ ch → LendsAll w call) × (call.channel ≢ ch → KeepsUsed w before after)
LeavesAlone w ch Guest before after = KeepsUsed w before after

-- A memory after the first part of a work, from the memory `first`: the first destinations, as many as are copied, have
-- the bytes that the sources with the same numbers had; the first zeros, as many as are cleared, have 0; and each other
-- address that the work uses has its own byte.
pub record HasFirst (w : Work) (done : Amounts) (first memory : ℕ → ℕ) : Type 0 where
  pub copied : (p : ℕ) → p < done.copied → p < size_of w.copy →
      memory (slice_index (destinations w.copy) p) ≡ first (slice_index (sources w.copy) p)
  pub zeros : (p : ℕ) → p < done.cleared → p < length (cleared w) → memory (slice_index (cleared w) p) ≡ 0
  pub kept : (a : ℕ) → Uses w a → ¬ Contains (take done.copied (destinations w.copy)) a →
      ¬ Contains (take done.cleared (cleared w)) a → memory a ≡ first a

-- The result of a call, if `first` is the memory at the load of a program of which this work explains n instructions,
-- and `memory` the one after the call. This part of the work is done: the program has got there, with as many bytes as
-- the channel counts in `stored`, also if the program is stopped there, waits or has failed, and all when it ends. Each
-- address in the range that the call reports as written is one that the work writes. A signal that the call reports is
-- one of the program's DMASEVs, and is set when this part is done. A call waits only for the event of one of the
-- program's DMAWFEs, and doesn't fail if no mark lies at an address that the work uses.
pub record HasCopied (start : Registers) (program : List ℕ) (w : Work) (n : ℕ) (first memory : ℕ → ℕ)
    (call : Call) : Type 0 where
  pub done : Amounts
  pub count : call.left.channel.stored ≡ done.copied + done.cleared
  pub reached : IsReached start program n done
  pub bytes : HasFirst w done first memory
  pub writes : (a : ℕ) → LiesIn call.written a → Contains (written w) a
  pub signals : (e : ℕ) → call.signal ≡ Some e → IsSignal start program n e done
  pub ends : call.last ≡ Some Ended → done ≡ all_of w
  pub waits : (e : ℕ) → call.last ≡ Some (Waiting e) → IsWait start program n e
  pub never_fails : (kind : FaultKind) → MissesAll call.marks w → call.last ≢ Some (Fault kind)

-- Each call on a channel has done its part, if a work explains its program and was left alone since its load.
abbrev pub CopiesSinceLoad : Type 0
CopiesSinceLoad =
    (start : Registers) (program : List ℕ) (w : Work) (n : ℕ) (changes : ℕ → Change) (states : ℕ → System)
    (load now : ℕ) (call : Call) → Explains start program w n → DoesAll changes states load (now + 1) →
    SinceLoad start program w changes states load now call (λ k. LeavesAlone w call.channel) →
    HasCopied start program w n (states load).memory (states (now + 1)).memory call

-- the bytes of an image, by their addresses
abbrev pub bytes_in : List ℕ → ℕ → ℕ
bytes_in image a = slice_index image a

-- This is what `laid` says by places, in a memory that contains the transfer's ranges.
abbrev pub LaidByPlace : Type 0
LaidByPlace =
    (t : Descriptor) (first : List ℕ) (k : ℕ) → IsCopy t → lies_below t (length first) ≡ true →
    HasFirst (only t) (record { copied = k; cleared = 0 }) (bytes_in first) (bytes_in (laid first t k))

-- ---- among other programs

-- the channel has no program, or executes one that this work explains; without a work, it may have any program
abbrev pub Holds : Option Work → ChannelValue → Type 0
Holds None c = Unit {0}
Holds (Some w) c =
    (c.program ≡ None)
    ⊎ ((start : Registers) × (program : List ℕ) × (n : ℕ) × Explains start program w n × Executes start program n c)

-- which works the channels have before and after a change
abbrev pub Gives : Change → (ℕ → Option Work) → (ℕ → Option Work) → Type 0
Gives (Sets ch c) before after = Holds (after ch) c × ((other : ℕ) → other ≢ ch → after other ≡ before other)
Gives change before after = (ch : ℕ) → after ch ≡ before ch

-- Before change number k, the work of channel number ch is `own k ch`, or None for a channel of whose program
-- nothing is known, as of a guest's. This holds before change number `from`, and after each change up to `count`.
pub record HaveWorks (own : ℕ → ℕ → Option Work) (changes : ℕ → Change) (states : ℕ → System)
    (from count : ℕ) : Type 0 where
  pub first : (ch : ℕ) → Holds (own from ch) ((states from).channels ch)
  pub gives : (k : ℕ) → from ≤ k → k < count → Gives (changes k) (own k) (own (k + 1))

-- A call on a channel with this work writes elsewhere than a work w uses, if it writes no such address. If nothing is
-- known of the channel's program, no such address may lie in the range that the call reports as written.
abbrev pub WritesElsewhere : Work → Option Work → Call → Type 0
WritesElsewhere w None call = (a : ℕ) → Uses w a → ¬ LiesIn call.written a
WritesElsewhere w (Some other) call = (a : ℕ) → Uses w a → ¬ Contains (written other) a

-- A change is apart from the work w of a channel: it gives the channel no other value than it has; a call on the
-- channel is lent what w uses; and a call on another channel and the guest write elsewhere.
abbrev pub IsApart : Work → ℕ → (ℕ → Option Work) → Change → System → System → Type 0
IsApart w ch own (Sets other c) before after = other ≡ ch → c ≡ before.channels ch
IsApart w ch own (Calls call) before after =
    (call.channel ≡ ch → LendsAll w call) × (call.channel ≢ ch → WritesElsewhere w (own call.channel) call)
IsApart w ch own Guest before after = KeepsUsed w before after

-- Any number of channels get transfers' and guests' programs at any time, and are stepped in any order. Each call on a
-- channel has done its part of the work, if since its load all changes were apart from it. What was before the load,
-- and what is written to other works' ranges, doesn't matter.
abbrev pub ChannelsCopy : Type 0
ChannelsCopy =
    (start : Registers) (program : List ℕ) (w : Work) (n : ℕ) (own : ℕ → ℕ → Option Work) (changes : ℕ → Change)
    (states : ℕ → System) (load now : ℕ) (call : Call) → Explains start program w n →
    DoesAll changes states load (now + 1) → HaveWorks own changes states load (now + 1) →
    SinceLoad start program w changes states load now call (λ k. IsApart w call.channel (own k)) →
    HasCopied start program w n (states load).memory (states (now + 1)).memory call
