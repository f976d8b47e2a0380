-- Calls from C that load a transfer into a channel and step it.
use Rattle.std.proofs.Common.{◌≡◌, ◌≢◌, ℕ, ◌+◌, ◌-◌, ◌<◌, ◌≤◌, Bool, true, false, ◌||◌, List, [], ◌∷◌, ◌++◌, length, take, Option, Some, None, refl, sym, ap}
use Rattle.std.proofs.Common.{◌∙◌, subst, arith}
use Rattle.std.specs.List.{Contains, list_any}
use Rattle.std.proofs.lemmas.List.{append-nil}
use Rattle.dma_insn.specs.AssemblyText.{most_program_bytes}
use Rattle.dma_mem.specs.Regions.{Piece, bytes_above, end_of, has, in_order, pieces_of, rises_from, run_from}
use Rattle.dma_mem.specs.{Marking.MarkList, Places.Descriptor, Refusals.refusal_of, Rules.IsTransfer, declared.regions.Region.Region}
use Rattle.dma_mem.specs.{declared.segment.Segment.Segment, declared.transfer.TransferFault.TransferFault}
use Rattle.dma_mem.proofs.TransferRules.{IsTransfer_from_no_refusal}
use Rattle.dma_chan.specs.declared.turn.ChanTurn.TheVariants.{Waiting, Ended, Fault}
use Rattle.dma_chan.specs.{declared.bus.Bus.TheVariants.Ideal, Channel.ChannelValue, Compiled.compiled, Compiled.cost, Exec.start_on, Others.Misses}
use Rattle.dma_chan.specs.{Stepping.Machine, Stepping.Wrote, Written.KeepsOutside, Written.LiesIn, declared.lent.Taken.Taken, declared.turn.ChanTurn.ChanTurn}
use Rattle.dma_chan.specs.{declared.turn.FaultKind.FaultKind}
use Rattle.dma_explain.specs.Explains.{Explains, UsesEventsOf, IsLoadedWith, cleared, only}
use Rattle.dma_explain.specs.{RegionsHave.HaveAll, Works.MissesAll, declared.explain.Amounts.Amounts}
use Rattle.dma_explain.proofs.SinceLoads.{channels_copy, cleared_within, copies_since_load}
use Rattle.dma_explain.proofs.{CompiledExplained.compiled_events, CompiledExplained.compiled_explained, RegionsHave.gaps_miss}
use Rattle.dma_chan.proofs.{PlacesKept.long_above, StepsTaken.steps_move, SteppedOver.writes_each}
use Rattle.dma_ffi.specs.ChannelLaws.{HasTransfer, IsCallOf, IsMade, KeepsEvents, LoadsATransfer, ReportsCopy, StepCall, StepsCopy, StepsAreCalls}
use Rattle.dma_ffi.specs.ChannelLaws.{StepsKeepTheRest, channel_of, machine_of, marked_of, marks_in, memory_of, copied}
use Rattle.dma_ffi.specs.Channels.{LoadsBytes, LoadsFrom, LoadsTransfer, StepsOver, are_usable, marks_over, channel_report}
use Rattle.dma_ffi.specs.Codes.{ok_code, transfer_code}
use Rattle.dma_ffi.specs.{declared.channel_steps.ChannelReport.ChannelReport, declared.marked_channel.MarkedChannel.MarkedChannel}
use Rattle.dma_mem.proofs.Pieces.{first as first_piece, has_parts}
use Rattle.dma_explain.specs.Changes as chan

-- ---- loads

refused : (fault : TransferFault) → ok_code ≢ transfer_code fault
refused fault e = grind arith

was_loaded : (t : Descriptor) (c d : ChannelValue) → LoadsTransfer t c ok_code d → (refusal_of t ≡ None) × IsLoadedWith (start_on Ideal) (compiled t).bytes d
was_loaded t c d h1 = grind (arith, append-nil, refused)

was_read : (program : List ℕ) (regions : List Region) (addr : ℕ) (rest : List ℕ) (c d : ChannelValue)
    → take most_program_bytes (run_from (pieces_of regions) addr) ≡ program ++ rest → LoadsFrom regions addr c ok_code d
    → IsLoadedWith (start_on Ideal) program d
was_read x0 x1 x2 x3 x4 x5 x6 x7 = grind (arith, take)

was_given : (program rest : List ℕ) (c d : ChannelValue) → LoadsBytes (program ++ rest) c ok_code d → IsLoadedWith (start_on Ideal) program d
was_given x0 x1 x2 x3 x4 = grind (arith, refl)

compiled_uses_events : (t : Descriptor) → IsTransfer t → UsesEventsOf (start_on Ideal) (compiled t).bytes t (cost t - 1)
unfolding compiled cost
compiled_uses_events t h = compiled_events (start_on Ideal) t h

has_compiled : (t : Descriptor) (c : ChannelValue) → IsTransfer t → IsLoadedWith (start_on Ideal) (compiled t).bytes c → HasTransfer t c
has_compiled t c h l = record { program = record { explains = compiled_explained t h; loaded = l }; events = compiled_uses_events t h }

pub loads_a_transfer : LoadsATransfer
loads_a_transfer = record {
  transfer = λ t c d one h.
      let w = was_loaded t c d h in has_compiled t d (IsTransfer_from_no_refusal t one w.0) w.1;
  bytes = λ program rest t n c d h loads. record { explains = h; loaded = was_given program rest c d loads };
  from = λ program t n regions addr rest c d h e loads. record { explains = h; loaded = was_read program regions addr rest c d e loads };
}

-- ---- reports

module _ (r : ChannelReport) (taken pc : ℕ) (w : Segment) (last : Option ChanTurn) (signal : Option ℕ) (is : r ≡ channel_report taken pc w last signal) where
  ended : r.last ≡ 3 → last ≡ Some Ended
  ended e = grind arith

  failed : r.last ≡ 4 → (kind : FaultKind) × (last ≡ Some (Fault kind))
  failed e = grind arith

  signalled : r.last ≡ 5 → signal ≡ Some r.event
  signalled e = grind arith

  waited : r.last ≡ 2 → last ≡ Some (Waiting r.event)
  waited e = grind arith

  taken_in : r.taken ≡ taken
  taken_in = grind arith

  written_in : r.written ≡ w
  written_in = grind arith

-- ---- steps

-- what lies in a piece lies below the end of the last one
ends_after : (at : ℕ) (ps : List Piece) (a : ℕ) → rises_from at ps ≡ true → list_any (has a) ps ≡ true → a < at + length (bytes_above at ps)
ends_after at [] a h lies = absurd (cc)
ends_after at (p ∷ ps) a h lies = let f = first_piece at p ps h in by (has a p) refl lies (ends_after (end_of p) ps a f.rest)
  where
    by : (b : Bool) → has a p ≡ b → (b || list_any (has a) ps) ≡ true → (list_any (has a) ps ≡ true → a < end_of p + length (bytes_above (end_of p) ps))
        → a < at + length (bytes_above at (p ∷ ps))
    by true e lies later = let f = first_piece at p ps h in let w = has_parts a p e in omega (arith, w.1, f.after, long_above at p ps)
    by false e lies later = let f = first_piece at p ps h in omega (arith, later lies, f.after, long_above at p ps)

-- what a call that succeeded did
abbrev Took : StepCall → Type 0
Took call = (m : MarkedChannel) × (n : MarkedChannel) × (taken : Taken) × StepsOver call.lent call.most taken call.report call.left m n

took : (call : StepCall) → call.code ≡ ok_code → IsMade call → Took call
took call ok made = grind arith

-- the range of the report is the one that the steps wrote
reported_range : (call : StepCall) (d : Took call) → call.report.written ≡ d.2.written
reported_range call d = written_in call.report d.2.count d.1.channel.registers.pc d.2.written d.2.last d.2.signal d.3.reported

-- a call that is refused changes nothing
was_refused : (call : StepCall) → call.code ≢ ok_code → IsMade call → (call.left ≡ call.lent) × (call.report ≡ call.former)
was_refused call bad made = grind arith

ordered_in : (regions : List Region) → are_usable regions ≡ true → in_order (pieces_of regions) ≡ true
ordered_in regions usable = grind arith

-- a call in the channel's own words
abbrev as_call : ℕ → (call : StepCall) → Took call → chan.Call
as_call ch call d = record {
  channel = ch;
  lends = λ a. list_any (has a) (pieces_of call.lent.regions);
  marks = marks_over d.0 call.lent.regions;
  most = call.most;
  found = machine_of call.lent;
  left = machine_of call.left;
  taken = d.2.count;
  last = d.2.last;
  signal = d.2.signal;
  written = d.2.written;
}

does_call : (ch : ℕ) (call : StepCall) (d : Took call) → chan.DoesCall (as_call ch call d)
does_call ch call d = rw (d.3.before, d.3.after) (record { is_loaded = d.3.is_loaded; steps = d.3.steps; signal = d.3.signal; written = d.3.written })

-- the report, by the channel that is left
reported_by : (call : StepCall) (d : Took call) → call.report ≡ channel_report d.2.count (channel_of call.left).registers.pc d.2.written d.2.last d.2.signal
reported_by call d = grind (arith, ap, sym)

pub steps_are_calls : StepsAreCalls
steps_are_calls ch call made ok =
    let d = took call ok made in (
      as_call ch call d,
      record {
        does = does_call ch call d;
        usable = d.3.usable;
        channel = refl;
        lends = λ a. refl;
        within = λ a lies. omega (arith, ends_after 0 (pieces_of call.lent.regions) a (ordered_in call.lent.regions d.3.usable) lies);
        marks = ap (λ (o : Option MarkedChannel). marks_over (marked_of o) call.lent.regions) (sym d.3.before);
        most = refl;
        found = refl;
        left = refl;
        reported = reported_by call d;
      },
    )

-- one of its steps wrote each address in the range that a call reports as written
each_was_written : (call : StepCall) (d : Took call) (a : ℕ) → LiesIn call.report.written a
    → Wrote (marks_in call.lent) (machine_of call.lent) call.report.taken a
each_was_written call d a i =
    let does = does_call 0 call d in
    let s = machine_of call.lent in
    let count = taken_in call.report d.2.count d.1.channel.registers.pc d.2.written d.2.last d.2.signal d.3.reported in
    let wrote = writes_each (marks_over d.0 call.lent.regions) s d.2.count a (steps_move does.steps)
    (subst (λ (w : Segment). LiesIn w a) (reported_range call d ∙ does.written) i) in
    subst (λ (o : Option MarkedChannel). Wrote (marks_over (marked_of o) call.lent.regions) s call.report.taken a) (sym d.3.before)
    (subst (λ (n : ℕ). Wrote (marks_over d.0 call.lent.regions) s n a) (sym count) wrote)

pub steps_keep_the_rest : StepsKeepTheRest
steps_keep_the_rest call made = record {
  ok = λ ok. let d = took call ok made in
      subst (λ (w : Segment). KeepsOutside w (memory_of call.lent) (memory_of call.left)) (sym (reported_range call d)) d.3.kept;
  writes_each = λ a ok i. each_was_written call (took call ok made) a i;
  refused = λ bad. was_refused call bad made;
}

-- ---- a copy alone

only_none : (t : Descriptor) (a : ℕ) → ¬ Contains (cleared (only t)) a
only_none t a i = grind arith

only_missed : (t : Descriptor) (marks : MarkList) → Misses marks t → MissesAll marks (only t)
only_missed t marks none = record { copy = none; zeros = λ a i. absurd (only_none t a i) }

only_done : (d : Amounts) (n : ℕ) → n ≡ d.copied + d.cleared → d.cleared ≤ 0 → d ≡ copied n
only_done d n e le = grind arith

-- what a call from C reports, if the call that it is has copied
module _ (program : List ℕ) (n : ℕ) (t : Descriptor) (first memory : ℕ → ℕ) (call : chan.Call) (from : StepCall)
    (h : Explains (start_on Ideal) program (only t) n) (is : IsCallOf call.channel from call)
    (copy : chan.HasCopied (start_on Ideal) program (only t) n first memory call) where
  missed : HaveAll from.lent.regions (only t) → Misses (marked_of from.lent.channel).marks t → MissesAll call.marks (only t)
  missed have none =
      let own = (marked_of from.lent.channel).marks in
      subst (λ (marks : MarkList). MissesAll marks (only t)) (sym is.marks)
      (gaps_miss from.lent.regions own (only t) (ordered_in from.lent.regions is.usable) have (only_missed t own none))

  reports_copy : ReportsCopy program n t first memory from call
  reports_copy =
      let pc = call.left.channel.registers.pc in
      let stored : (channel_of from.left).stored ≡ copy.done.copied + copy.done.cleared = ap (λ (m : Machine). m.channel.stored) (sym is.left) ∙ copy.count in
      record {
        copy = copy;
        done = only_done copy.done (channel_of from.left).stored stored (cleared_within (start_on Ideal) program (only t) n copy.done h copy.reached);
        written = written_in from.report call.taken pc call.written call.last call.signal is.reported;
        signals = signalled from.report call.taken pc call.written call.last call.signal is.reported;
        ends = ended from.report call.taken pc call.written call.last call.signal is.reported;
        waits = waited from.report call.taken pc call.written call.last call.signal is.reported;
        never_fails = λ have none e.
            let f = failed from.report call.taken pc call.written call.last call.signal is.reported e in
            copy.never_fails f.0 (missed have none) f.1;
      }

-- a signal and a wait are the transfer's, if the program's are
keeps_events : (program : List ℕ) (n : ℕ) (t : Descriptor) (first memory : ℕ → ℕ) (call : chan.Call) (from : StepCall)
    → UsesEventsOf (start_on Ideal) program t n → ReportsCopy program n t first memory from call → KeepsEvents t from
keeps_events program n t first memory call from has r = record {
  signals = λ e.
      let s = has.signals from.report.event r.copy.done (r.copy.signals from.report.event (r.signals e)) in
      (s.0, ap (λ (x : Amounts). x.copied) (sym r.done ∙ s.1));
  waits = λ e. (has.waits from.report.event (r.copy.waits from.report.event (r.waits e))).1;
}

pub steps_copy : StepsCopy
steps_copy = record {
  copies = λ program n t changes states load now call from h does since is.
      reports_copy program n t (states load).memory (states (now + 1)).memory call from h is
      (copies_since_load (start_on Ideal) program (only t) n changes states load now call h does since);
  apart = λ program n t own changes states load now call from h does have since is.
      reports_copy program n t (states load).memory (states (now + 1)).memory call from h is
      (channels_copy (start_on Ideal) program (only t) n own changes states load now call h does have since);
  events = keeps_events;
}
