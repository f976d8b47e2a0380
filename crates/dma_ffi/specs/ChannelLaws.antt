-- What calls from C on a channel copy, since the load of a transfer.
use Rattle.std.specs.Prelude.{◌≡◌, ◌≢◌, ℕ, ◌+◌, ◌-◌, ◌<◌, ◌++◌, ℤ, true, List, [], length, take, Option, Some, None}
use Rattle.std.specs.List.{list_any}
use Rattle.dma_mem.specs.Regions.{has, image_of, pieces_of, run_from}
use Rattle.dma_mem.specs.{Places.Descriptor, Places.size_of, Flags.flags_of, Marking.MarkList, Rules.HasOneByte, declared.regions.Region.Region}
use Rattle.dma_insn.specs.AssemblyText.{most_program_bytes}
use Rattle.dma_chan.specs.{declared.bus.Bus.TheVariants.Ideal, declared.turn.ChanTurn.TheVariants.Ended, declared.turn.ChanTurn.TheVariants.Waiting}
use Rattle.dma_chan.specs.{Channel.ChannelValue, Channel.unloaded, Compiled.compiled, Compiled.cost, Exec.start_on, Others.Misses, Stepping.Machine}
use Rattle.dma_chan.specs.{Stepping.Wrote, Stepping.machine, Written.KeepsOutside, Written.LiesIn}
use Rattle.dma_explain.specs.Changes.{Call, Change, DoesAll, DoesCall, HasCopied, HaveWorks, IsApart, LeavesAlone, SinceLoad, System}
use Rattle.dma_explain.specs.Explains.{Explains, UsesEventsOf, IsLoadedWith, Work, only}
use Rattle.dma_explain.specs.{declared.explain.Amounts.Amounts, RegionsHave.HaveAll}
use Rattle.dma_ffi.specs.Channels.{Lent, LoadsBytes, LoadsFrom, LoadsTransfer, ReportsSteps, are_usable, channel_report, marks_over}
use Rattle.dma_ffi.specs.Codes.{step_ended, step_failed, step_signalled, step_waits}
use Rattle.dma_ffi.specs.{declared.channel_steps.ChannelReport.ChannelReport, declared.marked_channel.MarkedChannel.MarkedChannel, Codes.ok_code}

-- ---- loads

-- A channel into which a program was just loaded that begins with this one, which a transfer explains with n
-- instructions before DMAEND. It is a copy alone: the channels of C have no DMASTZ.
pub record HasExplained (program : List ℕ) (n : ℕ) (t : Descriptor) (c : ChannelValue) : Type 0 where
  pub explains : Explains (start_on Ideal) program (only t) n
  pub loaded : IsLoadedWith (start_on Ideal) program c

-- A channel into which the program of a transfer was just loaded. The transfer explains it, and it has the transfer's
-- events.
pub record HasTransfer (t : Descriptor) (c : ChannelValue) : Type 0 where
  pub program : HasExplained (compiled t).bytes (cost t - 1) t c
  pub events : UsesEventsOf (start_on Ideal) (compiled t).bytes t (cost t - 1)

-- A load that returns `ok_code` gives the channel a program that a transfer explains: a load of a copy, or of a fill
-- with one source byte; or of bytes, or from memory, if these begin with a program that the transfer explains.
pub record LoadsATransfer : Type 0 where
  pub transfer : (t : Descriptor) (c d : ChannelValue) → HasOneByte t →
      LoadsTransfer t c ok_code d → HasTransfer t d
  pub bytes : (program rest : List ℕ) (t : Descriptor) (n : ℕ) (c d : ChannelValue) →
      Explains (start_on Ideal) program (only t) n → LoadsBytes (program ++ rest) c ok_code d → HasExplained program n t d
  pub from : (program : List ℕ) (t : Descriptor) (n : ℕ) (regions : List Region) (addr : ℕ) (rest : List ℕ)
      (c d : ChannelValue) → Explains (start_on Ideal) program (only t) n →
      take most_program_bytes (run_from (pieces_of regions) addr) ≡ program ++ rest →
      LoadsFrom regions addr c ok_code d → HasExplained program n t d

-- ---- steps

-- A call from C that takes steps: what it is lent, the most steps, the code, the report before and after, and what was
-- lent as it is after the call.
pub record StepCall : Type 0 where
  pub lent : Lent
  pub most : ℕ
  pub code : ℤ
  pub former : ChannelReport
  pub report : ChannelReport
  pub left : Lent

-- C's channel with its marks; without a program and marks if it isn't open
abbrev pub marked_of : Option MarkedChannel → MarkedChannel
marked_of None = record { channel = unloaded; marks = [] }
marked_of (Some m) = m

-- the channel that C lends
abbrev pub channel_of : Lent → ChannelValue
channel_of l = (marked_of l.channel).channel

-- the memory that C lends
abbrev pub memory_of : Lent → List ℕ
memory_of l = image_of (pieces_of l.regions)

-- the channel that C lends, with the memory and the flags
abbrev pub machine_of : Lent → Machine
machine_of l = machine (channel_of l) (memory_of l) (flags_of l.flags)

-- the marks at which the bursts of the channel that C lends fail
abbrev pub marks_in : Lent → MarkList
marks_in l = marks_over (marked_of l.channel) l.regions

-- the call does and returns what `dma330_channel_step` promises
abbrev pub IsMade : StepCall → Type 0
IsMade call = ReportsSteps call.lent call.most call.code call.former call.report call.left

-- A call that steps a channel, with any program, changes no byte outside the range that it reports as written, and one
-- of its steps wrote each address in this range. A call that is refused changes nothing.
pub record KeepsTheRest (call : StepCall) : Type 0 where
  pub ok : call.code ≡ ok_code → KeepsOutside call.report.written (memory_of call.lent) (memory_of call.left)
  pub writes_each : (a : ℕ) → call.code ≡ ok_code → LiesIn call.report.written a →
      Wrote (marks_in call.lent) (machine_of call.lent) call.report.taken a
  pub refused : call.code ≢ ok_code → (call.left ≡ call.lent) × (call.report ≡ call.former)

-- Each call keeps the rest.
abbrev pub StepsKeepTheRest : Type 0
StepsKeepTheRest = (call : StepCall) → IsMade call → KeepsTheRest call

-- ---- among other channels

-- A call on the channel with this number, in the words of `dma_explain::laws::channels_copy`, is this call from C. It
-- is lent the addresses of the regions, which are usable, and it reports the same.
pub record IsCallOf (ch : ℕ) (from : StepCall) (call : Call) : Type 0 where
  pub does : DoesCall call
  pub usable : are_usable from.lent.regions ≡ true
  pub channel : call.channel ≡ ch
  pub lends : (a : ℕ) → call.lends a ≡ list_any (has a) (pieces_of from.lent.regions)
  pub within : (a : ℕ) → call.lends a ≡ true → a < length call.found.image
  pub marks : call.marks ≡ marks_in from.lent
  pub most : call.most ≡ from.most
  pub found : call.found ≡ machine_of from.lent
  pub left : call.left ≡ machine_of from.left
  pub reported : from.report
      ≡ channel_report call.taken call.left.channel.registers.pc call.written call.last call.signal

-- Each call that returns `ok_code` is such a call. So `channels_copy` holds of calls from C on any number of channels,
-- of which each is lent regions of its own.
abbrev pub StepsAreCalls : Type 0
StepsAreCalls =
    (ch : ℕ) (from : StepCall) → IsMade from → from.code ≡ ok_code → (call : Call) × IsCallOf ch from call

-- ---- of a program that copies

-- this number of bytes copied, and none set to 0
abbrev pub copied : ℕ → Amounts
copied n = record { copied = n; cleared = 0 }

-- What a call from C has done and reports, where `call` is the same call in the words of `Changes`. A part of the
-- transfer is done (`HasCopied`): as many bytes are copied as the channel counts in `stored`, which its registers show.
-- The report has the range that the call wrote. If the report says that it signalled, ended or waits, so did
-- the call, with the event that is reported. It reports no fault if the regions have all addresses that the transfer
-- touches, none that it writes is read-only, and no mark of the channel lies at any of them.
pub record ReportsCopy (program : List ℕ) (n : ℕ) (t : Descriptor) (first memory : ℕ → ℕ) (from : StepCall)
    (call : Call) : Type 0 where
  pub copy : HasCopied (start_on Ideal) program (only t) n first memory call
  pub done : copy.done ≡ copied (channel_of from.left).stored
  pub written : from.report.written ≡ call.written
  pub signals : from.report.last ≡ step_signalled → call.signal ≡ Some from.report.event
  pub ends : from.report.last ≡ step_ended → call.last ≡ Some Ended
  pub waits : from.report.last ≡ step_waits → call.last ≡ Some (Waiting from.report.event)
  pub never_fails : HaveAll from.lent.regions (only t) → Misses (marked_of from.lent.channel).marks t →
      from.report.last ≢ step_failed

-- What it reports besides, if the program has the transfer's events, as a compiled one has: a signal is the transfer's,
-- and all bytes are copied then; a wait is for the transfer's event.
pub record KeepsEvents (t : Descriptor) (from : StepCall) : Type 0 where
  pub signals : from.report.last ≡ step_signalled →
      (t.signal ≡ Some from.report.event) × ((channel_of from.left).stored ≡ size_of t)
  pub waits : from.report.last ≡ step_waits → t.wait ≡ Some from.report.event

-- A call from C has copied (`ReportsCopy`) if a transfer explains the channel's program, and either all changes since
-- its load left the transfer alone, as in `CopiesSinceLoad`, or all were apart from it, as in `ChannelsCopy`. If the
-- program has the transfer's events, the call reports these (`KeepsEvents`).
pub record StepsCopy : Type 0 where
  pub copies : (program : List ℕ) (n : ℕ) (t : Descriptor) (changes : ℕ → Change) (states : ℕ → System) (load now : ℕ)
      (call : Call) (from : StepCall) → Explains (start_on Ideal) program (only t) n →
      DoesAll changes states load (now + 1) →
      SinceLoad (start_on Ideal) program (only t) changes states load now call
      (λ k. LeavesAlone (only t) call.channel) →
      IsCallOf call.channel from call →
      ReportsCopy program n t (states load).memory (states (now + 1)).memory from call
  pub apart : (program : List ℕ) (n : ℕ) (t : Descriptor) (own : ℕ → ℕ → Option Work) (changes : ℕ → Change)
      (states : ℕ → System) (load now : ℕ) (call : Call) (from : StepCall) →
      Explains (start_on Ideal) program (only t) n → DoesAll changes states load (now + 1) →
      HaveWorks own changes states load (now + 1) →
      SinceLoad (start_on Ideal) program (only t) changes states load now call
      (λ k. IsApart (only t) call.channel (own k)) →
      IsCallOf call.channel from call →
      ReportsCopy program n t (states load).memory (states (now + 1)).memory from call
  pub events : (program : List ℕ) (n : ℕ) (t : Descriptor) (first memory : ℕ → ℕ) (call : Call) (from : StepCall) →
      UsesEventsOf (start_on Ideal) program t n → ReportsCopy program n t first memory from call → KeepsEvents t from
