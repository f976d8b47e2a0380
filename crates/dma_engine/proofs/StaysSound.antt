-- Whatever a call answers, a sound view stays sound: after an entry that changes no channel, and after a change at one.
use Rattle.dma_engine.proofs.Checkpoint.{checkpoint_sound}
use Rattle.std.proofs.Common.{◌≡◌, ◌≢◌, ℕ, ◌+◌, ◌-◌, ◌<◌, List, [], ◌∷◌, ◌++◌, length, Option, Some, None, Bool, ◌&&◌, refl, ap, sym, ◌∙◌, subst, ◌≤◌}
use Rattle.std.proofs.Common.{true, false, arith, not}
use Rattle.std.specs.Prelude.{slice_set, is_some, nat_lt, ◌==◌, slice_get, IfSome}
use Rattle.std.specs.Option.{option_map}
use Rattle.std.proofs.lemmas.List.{set-get_or}
use Rattle.std.proofs.lemmas.Bool.{eq-eqb, eqb-false, lt-ltb, ltb-false, ne_eqb, or_parts, and_right, true_from_ne_false}
use Rattle.std.proofs.lemmas.Bool.{not-false}
use Rattle.std.proofs.{lemmas.List.Elements.All-head, lemmas.List.Elements.All-tail, lemmas.Option.slice_get-get_or}
use Rattle.dma_mem.specs.Places.{Descriptor, is_free_of, touches}
use Rattle.dma_mem.specs.declared.call.Call.TheVariants.{Write, Read, Submit, Issue, Pause, Resume, Terminate, Step, Mark, Unmark, Raise, Checkpoint}
use Rattle.dma_mem.specs.{declared.call.Call.Call, declared.segment.Segment.Segment, Rules.IsTransfer}
use Rattle.dma_chan.specs.{Compiled.cost, inner.Acts.IsOther, Traffic.member, Traffic.stored_after}
use Rattle.dma_engine.specs.Object.{Object, Allows, after, channel, finished, IsMark, empty_channel, is_set, issued_front, unfinished, used, with_all_aborted}
use Rattle.dma_engine.specs.Object.{with_outcome, with_transfer, ChannelState, front}
use Rattle.dma_engine.specs.View.{View, ChannelSchedule, RunningTransfer, Agrees, AreFree, Fits, IsSound, channels, idle, object_of, runs, running_in}
use Rattle.dma_engine.specs.View.{schedule_at, state_at}
use Rattle.dma_engine.specs.Turn.{with_entry, Stepped, turn, next_moved, finishes, with_taken, first_conflicting}
use Rattle.dma_engine.specs.Answer.{CallAnswers, answer, unless, write_fault, submit_fault, channel_fault, mark_fault}
use Rattle.dma_engine.specs.Answer.{checkpoint_fault, checkpointed, first_running, with_pause, terminated, done_on}
use Rattle.dma_engine.specs.Laws.{AreSoundAnswers, IsCall, NewViewsAreSound, AnswersStaySound, CallsStaySound}
use Rattle.dma_engine.specs.declared.call.Reply.TheVariants.{Done}
use Rattle.dma_engine.specs.declared.entry.Entry.TheVariants.{Wrote, Submitted, Issued, Passed, Signalled, Finished, Terminated, Unmarked}
use Rattle.dma_engine.specs.declared.fault.EngineFault.TheVariants.{Running}
use Rattle.dma_engine.specs.{declared.call.Reply.Reply, declared.entry.Entry.Entry, declared.entry.Signaller.TheVariants.Channel}
use Rattle.dma_engine.specs.{declared.fault.EngineFault.EngineFault, declared.outcome.TransResult.TransResult}
use Rattle.dma_engine.specs.{inner.Due.Finishes, inner.Due.MayStart}
use Rattle.dma_insn.specs.declared.chip.ChipInsn.TheVariants.{End, Sev, Wfe}
use Rattle.dma_chan.proofs.ShapeLaws.{shape_is}
use Rattle.dma_engine.proofs.CallCases.{cause_none, channel_open, read_entry, range_open, submit_open}
use Rattle.dma_engine.proofs.Fronts.{IsFront, finish_may, has_passed, passed_next, runs_at_law, signalled_next, stored_there, within_next}
use Rattle.dma_engine.proofs.TransferRules.{ruled_front}
use Rattle.dma_engine.proofs.{AnswerCounts.answered, AnswerCounts.object_one, Changes.FitsStill}
use Rattle.dma_engine.proofs.{Changes.fits_changed, Changes.fits_channels, Histories.IsLegal_append, Opening.new_sound, Queues.front_issued, Queues.front_where}
use Rattle.dma_engine.proofs.Turns.{Executes, turn_cases_where}
use Rattle.dma_engine.proofs.{Queues.runs_front, Queues.slice_get_push, Sizes.flags_object, WhatRuns.find_none_at}

-- ---- an entry more

-- an entry that is allowed, with a schedule that fits the object after it
entry_sound : (v : View) (e : Entry) (steps : ℕ) (s : List ChannelSchedule) → IsSound v → Allows (object_of v) e → Fits (after (object_of v) e) s →
    IsSound (record { base = v.base; history = v.history ++ e ∷ []; steps = steps; schedule = s })
entry_sound v e steps s h allowed fits = grind (arith, IsLegal_append, object_one)

-- an entry that changes no channel
pub entered_sound : (v : View) (e : Entry) → IsSound v → Allows (object_of v) e → (object_of v).channels ≡ (after (object_of v) e).channels →
    IsSound (with_entry v e)
entered_sound v e h allowed same = entry_sound v e v.steps v.schedule h allowed (fits_channels (object_of v) (after (object_of v) e) v.schedule same h.fits)

-- ---- a change at one channel

module _ (v : View) (ch : ℕ) (h : IsSound v) (less : ch < channels v) where
  abbrev o : Object
  o = object_of v

  -- What runs there with this state and schedule is free of whatever is free of what runs there now.
  abbrev StaysFree : ChannelState → Option ℕ → Type 0
  StaysFree c taken = (y : Option RunningTransfer) → AreFree (runs o v.schedule ch) y → AreFree (running_in ch c taken) y

  fits_still : (c : ChannelState) (x : ChannelSchedule) → Agrees c x.taken → StaysFree c x.taken → FitsStill o v.schedule ch c x
  fits_still c x agrees free = grind arith

  -- of the schedule alone
  schedule_sound : (steps : ℕ) (x : ChannelSchedule) → FitsStill o v.schedule ch (channel o ch) x →
      IsSound (record { base = v.base; history = v.history; steps = steps; schedule = slice_set v.schedule ch x })
  schedule_sound steps x fits = record {
    opens = h.opens;
    makes = h.makes;
    legal = h.legal;
    fits = fits_changed o o v.schedule ch (channel o ch) x h.fits (sym (set-get_or o.channels ch empty_channel)) fits;
  }

  -- by an entry, after which the channel has this state
  change_sound : (steps : ℕ) (e : Entry) (c : ChannelState) (x : ChannelSchedule) → Allows o e → (after o e).channels ≡ slice_set o.channels ch c →
      Agrees c x.taken → StaysFree c x.taken →
      IsSound (record { base = v.base; history = v.history ++ e ∷ []; steps = steps; schedule = slice_set v.schedule ch x })
  change_sound steps e c x allowed is agrees free =
      entry_sound v e steps (slice_set v.schedule ch x) h allowed
      (fits_changed o (after o e) v.schedule ch c x h.fits is (fits_still c x agrees free))

  -- by an entry, after which the same runs there
  queue_sound : (e : Entry) (c : ChannelState) → Allows o e → (after o e).channels ≡ slice_set o.channels ch c → Agrees c (schedule_at v ch).taken →
      running_in ch c (schedule_at v ch).taken ≡ runs o v.schedule ch → IsSound (with_entry v e)
  queue_sound e c allowed is agrees still =
      let all = change_sound v.steps e c (schedule_at v ch) allowed is agrees (λ y. subst (λ r. AreFree r y) (sym still)) in
      let kept : View → List ChannelSchedule → View = λ u s. record u { schedule = s } in
      subst (λ s. IsSound (kept (with_entry v e) s)) (set-get_or v.schedule ch idle) all

-- ---- a start, an issue and a submit

start_agrees : (c : ChannelState) (t : Descriptor) → IsTransfer t → c.halted ≡ false → issued_front c ≡ Some t → Agrees c None → Agrees c (Some 0)
start_agrees c t rules goes is before = grind (arith, shape_is, ne_eqb, and_right)

free_of_law : (t : Descriptor) (r : RunningTransfer) (x : Option RunningTransfer) → r.transfer ≡ t → IfSome x (λ s. not (is_free_of t s.transfer) ≡ false)
    → AreFree (Some r) x
free_of_law t r x h h2 = grind (arith, not-false)

-- the schedule after it fits
start_fits : (v : View) (ch : ℕ) (t : Descriptor) (x : ChannelSchedule) → IsSound v → MayStart v ch → issued_front (state_at v ch) ≡ Some t
    → first_conflicting v t ≡ None → x.taken ≡ Some 0 → FitsStill (object_of v) v.schedule ch (state_at v ch) x
start_fits v ch t x h may some none begun =
    let o = object_of v in
    let s = v.schedule in
    let c = channel o ch in
    let is : front c ≡ Some t = front_issued c t some in
    let before : Agrees c None = rw may.3 at (h.fits.each ch may.0) in
    let now : RunningTransfer = record { ch = ch; cookie = finished c + 1; transfer = t; taken = 0 } in
    let there_is : running_in ch c x.taken ≡ Some now = ap (running_in ch c) begun ∙ runs_front ch c t 0 is in
    let each : (d : ℕ) → d < length o.channels → (y : Option RunningTransfer) → runs o s d ≡ y → IfSome y (λ u. not (is_free_of t u.transfer) ≡ false) =
    grind (arith, find_none_at) in
    record {
      there = may.0;
      agrees = subst (Agrees c) (sym begun) (start_agrees c t (ruled_front v ch t h is).0 may.1 some before);
      free = λ d l k. rw there_is (free_of_law t now (runs o s d) refl (each d l (runs o s d) refl));
    }

pub agrees_issued : (c : ChannelState) (taken : Option ℕ) → Agrees c taken → Agrees (record c { issued = used c }) taken
agrees_issued c taken h = grind (arith, front_where, lt-ltb)

pub runs_issued : (ch : ℕ) (c : ChannelState) (taken : Option ℕ) → running_in ch (record c { issued = used c }) taken ≡ running_in ch c taken
runs_issued ch c taken = grind (arith)

pub front_submitted : (c : ChannelState) (t u : Descriptor) → front c ≡ Some t → front (with_transfer c u) ≡ Some t
front_submitted c t u h = slice_get_push c.submitted u t (length c.outcomes) h

issued_below : (c : ChannelState) (t : Descriptor) → issued_front c ≡ Some t → nat_lt (finished c) c.issued ≡ true
issued_below c t h = true_from_ne_false _ (λ e. let none : issued_front c ≡ None = rw e refl in cc)

pub agrees_submitted : (c : ChannelState) (u : Descriptor) (taken : Option ℕ) → Agrees c taken → Agrees (with_transfer c u) taken
agrees_submitted c u taken h = grind (arith, front_where, issued_below, front_submitted)

pub runs_submitted : (ch : ℕ) (c : ChannelState) (u : Descriptor) (taken : Option ℕ) → Agrees c taken
    → running_in ch (with_transfer c u) taken ≡ running_in ch c taken
runs_submitted ch c u taken h = grind (arith, front_where, runs_front, front_submitted)

-- ---- the instructions of a front

-- the channel, but for whether its front has passed and signalled
abbrev pub with_flags : ChannelState → Bool → Bool → ChannelState
with_flags c a b = record c { passed = a; signalled = b }

free_taken : (r s : RunningTransfer) (x : Option RunningTransfer) → r.transfer ≡ s.transfer → AreFree (Some r) x → AreFree (Some s) x
free_taken r s x h h2 = grind (arith)

-- a front of a sound view and what it has executed
record Runs (v : View) (ch n : ℕ) (t : Descriptor) : Type 0 where
  sound : IsSound v
  less : ch < channels v
  taken : (schedule_at v ch).taken ≡ Some n
  it : IsFront (state_at v ch) t n

module _ (v : View) (ch n : ℕ) (t : Descriptor) (r : Runs v ch n t) where
  abbrev c : ChannelState
  c = state_at v ch

  abbrev f : IsFront c t n
  f = r.it

  -- the schedule after one more instruction
  abbrev next : ChannelSchedule
  next = record (schedule_at v ch) { taken = Some (n + 1) }

  -- The channel agrees with it, if its front has then passed if a, and has signalled if b,
  agrees_next : (a b : Bool) → n + 1 < cost t → a ≡ (is_some t.wait && nat_lt 0 (n + 1)) → b ≡ (is_some t.signal && n + 1 == cost t - 1) →
      Agrees (with_flags c a b) (Some (n + 1))
  agrees_next a b within passed signalled = rw f.issued (f.goes, (within, passed, signalled))

  -- and the front is as free of the others.
  free_next : (a b : Bool) → StaysFree v ch r.sound r.less (with_flags c a b) (Some (n + 1))
  free_next a b y free = grind (arith, runs_front, free_taken)

  -- an instruction that adds an entry
  adds_sound : (e : Entry) (a b : Bool) → Allows (object_of v) e → (after (object_of v) e).channels ≡ slice_set (object_of v).channels ch (with_flags c a b) →
      Agrees (with_flags c a b) (Some (n + 1)) → IsSound (next_moved (with_entry v e) ch n).1
  adds_sound e a b allowed is agrees = change_sound v ch r.sound r.less (v.steps + 1) e (with_flags c a b) next allowed is agrees (free_next a b)

  pass_sound : (event : ℕ) (invalid : Bool) → member t n ≡ Wfe event invalid → is_set (object_of v) event ≡ true →
      IsSound (next_moved (with_entry v (Passed ch event)) ch n).1
  pass_sound event invalid is set =
      let events = (object_of v).events in
      let only = (shape_is t f.rules).wait_only n event invalid is in
      let not_sev : (k : ℕ) → member t n ≢ Sev k = λ k g. let h = sym is ∙ g in absurd cc in
      let within = within_next c t n f (λ g. let h = sym is ∙ g in absurd cc) in
      let small : event ≤ 31 = subst (λ (w : Option ℕ). IfSome w (λ k. k ≤ 31)) only.1 f.rules.wait_event in
      let flags : length events ≡ 32 = flags_object v.base v.history ∙ r.sound.opens.flags in
      let raised : slice_get events event ≡ Some true = slice_get-get_or events event false (omega (arith, flags, small)) ∙ ap (λ b. Some b) set in
      let before : c.passed ≡ false = f.passed ∙ ap (λ k. is_some t.wait && nat_lt 0 k) only.0 ∙ and_right (is_some t.wait) false refl in
      let passed : true ≡ (is_some t.wait && nat_lt 0 (n + 1)) = sym (ap (λ w. is_some w && nat_lt 0 (n + 1)) only.1 ∙ lt-ltb 0 (n + 1) (omega arith)) in
      adds_sound (Passed ch event) true c.signalled (f.goes, rw f.issued (only.1, before, raised)) refl
      (agrees_next true c.signalled within passed (signalled_next c t n f not_sev within))

  signal_sound : (event : ℕ) → member t n ≡ Sev event → IsSound (next_moved (with_entry v (Signalled (Channel ch) event)) ch n).1
  signal_sound event is =
      let only = (shape_is t f.rules).signal_only n event is in
      let not_wfe : (k : ℕ) (i : Bool) → member t n ≢ Wfe k i = λ k i g. let h = sym is ∙ g in absurd cc in
      let not_yet : (n == cost t - 1) ≡ false = ne_eqb n (cost t - 1) (λ z. omega (arith, only.0)) in
      let before : c.signalled ≡ false = f.signalled ∙ ap (λ b. is_some t.signal && b) not_yet ∙ and_right (is_some t.signal) false refl in
      let last : (n + 1 == cost t - 1) ≡ true = eq-eqb (n + 1) (cost t - 1) (omega (arith, only.0)) in
      let signalled : true ≡ (is_some t.signal && n + 1 == cost t - 1) = sym (ap (λ w. is_some w && n + 1 == cost t - 1) only.1 ∙ last) in
      adds_sound (Signalled (Channel ch) event) c.passed true (f.goes, rw f.issued (has_passed c t n f not_wfe, only.1, before)) refl
      (agrees_next c.passed true (omega (arith, only.0)) (passed_next c t n f not_wfe) signalled)

  finish_sound : (how : TransResult) → Finishes v how t n → IsSound (finishes v ch t n how).1
  finish_sound how is =
      let done = stored_after t n in
      change_sound v ch r.sound r.less (v.steps + 1) (Finished ch how done) (with_outcome c how done) (record (schedule_at v ch) { taken = None })
      (finish_may v ch n t how f is) refl (refl, refl) (λ y free. tt)

  -- an instruction that neither waits, signals nor ends
  plain_sound : IsOther (member t n) → IsSound (next_moved v ch n).1
  plain_sound same =
      let within = within_next c t n f (λ e. let never : IsOther End = subst IsOther e same in never) in
      let passed = passed_next c t n f (λ k b e. let never : IsOther (Wfe k b) = subst IsOther e same in never) in
      let signalled = signalled_next c t n f (λ k e. let never : IsOther (Sev k) = subst IsOther e same in never) within in
      schedule_sound v ch r.sound r.less (v.steps + 1) next
      (fits_still v ch r.sound r.less c next (agrees_next c.passed c.signalled within passed signalled) (free_next c.passed c.signalled))

-- ---- the table of cases

started_sound : (v : View) (ch : ℕ) (t : Descriptor) → IsSound v → MayStart v ch → issued_front (state_at v ch) ≡ Some t →
    first_conflicting v t ≡ None → IsSound (with_taken v ch (Some 0))
started_sound v ch t h may some none =
    let x : ChannelSchedule = record (schedule_at v ch) { taken = Some 0 } in
    schedule_sound v ch h may.0 v.steps x (start_fits v ch t x h may some none refl)

runs_there : (v : View) (ch n : ℕ) (t : Descriptor) → IsSound v → Executes v ch n t → Runs v ch n t
runs_there v ch n t h x =
    let f = runs_at_law v ch n h x.there x.taken in
    let same : f.transfer ≡ t = let e : Some f.transfer ≡ Some t = sym f.it.issued ∙ x.issued in cc in
    record { sound = h; less = x.there; taken = x.taken; it = subst (λ u. IsFront (state_at v ch) u n) same f.it }

turn_sound_law : (v : View) (ch : ℕ) → IsSound v → IsSound (turn v ch).1
turn_sound_law v ch h = turn_cases_where v ch (λ s. IsSound s.1) (record {
  idle = (h, h, h, h, h, λ _. h, λ _. h);
  starts = λ t may some none. started_sound v ch t h may some none;
  moves = λ n t x other. plain_sound v ch n t (runs_there v ch n t h x) other;
  passes = λ n event t x waits set. pass_sound v ch n t (runs_there v ch n t h x) event waits.0 waits.1 set;
  signals = λ n event t x is. signal_sound v ch n t (runs_there v ch n t h x) event is;
  ends = λ n t how x is. finish_sound v ch n t (runs_there v ch n t h x) how is;
})

-- The view after a step is sound, if the turn is known.
pub stepped_sound : (v : View) (ch : ℕ) (s : Stepped) → IsSound v → turn v ch ≡ s → IsSound s.1
stepped_sound v ch s h is = subst (λ (x : Stepped). IsSound x.1) is (turn_sound_law v ch h)

-- ---- the calls

unless_sound : (v : View) (f : Option EngineFault) (x : Reply × View) → IsSound v → (f ≡ None → IsSound x.1) → IsSound (unless f v x).1
unless_sound v f x h h2 = grind (arith)

pub submit_sound : (v : View) (ch : ℕ) (t : Descriptor) → IsCall (Submit ch t) → IsSound v → submit_fault v ch t ≡ None →
    IsSound (with_entry v (Submitted ch t (used (state_at v ch) + 1)))
submit_sound v ch t rules h none =
    let c = state_at v ch in
    let taken = (schedule_at v ch).taken in
    let may = submit_open v ch t none in
    let agrees = h.fits.each ch may.0 in
    queue_sound v ch h may.0 (Submitted ch t (used c + 1)) (with_transfer c t) (may.0, rules, may.1, refl, omega (arith, may.2)) refl
    (agrees_submitted c t taken agrees) (runs_submitted ch c t taken agrees)

pub issue_sound : (v : View) (ch : ℕ) → IsSound v → ch < channels v → IsSound (with_entry v (Issued ch))
issue_sound v ch h less =
    let c = state_at v ch in
    let taken = (schedule_at v ch).taken in
    queue_sound v ch h less (Issued ch) (record c { issued = used c }) less refl (agrees_issued c taken (h.fits.each ch less)) (runs_issued ch c taken)

pub pause_sound : (v : View) (ch : ℕ) (paused : Bool) → IsSound v → ch < channels v → IsSound (with_pause v ch paused)
pause_sound v ch paused h less =
    let x : ChannelSchedule = record (schedule_at v ch) { paused = paused } in
    schedule_sound v ch h less v.steps x (fits_still v ch h less (state_at v ch) x (h.fits.each ch less) (λ y free. free))

pub terminate_sound : (v : View) (ch : ℕ) → IsSound v → ch < channels v → IsSound (terminated v ch)
terminate_sound v ch h less =
    let c = state_at v ch in
    let done = done_on v ch in
    change_sound v ch h less v.steps (Terminated ch done (unfinished c)) (with_all_aborted c done) idle (less, refl, stored_there v ch h less) refl
    (refl, refl) (λ y free. tt)

mark_may : (s : Segment) → mark_fault s ≡ None → IsMark s
mark_may s none = grind (arith, or_parts, cause_none, eqb-false, ltb-false)

none_runs : (x : Option RunningTransfer) → option_map (λ (r : RunningTransfer). Running r.ch r.cookie) x ≡ None → x ≡ None
none_runs x h = grind (arith)

answer_sound : (v : View) (call : Call) → IsCall call → IsSound v → IsSound (answer v call).1
answer_sound v (Write addr bytes) is h =
    unless_sound v (write_fault v addr (length bytes)) (Done, with_entry v (Wrote addr bytes)) h
    (λ free. entered_sound v (Wrote addr bytes) h (range_open v addr (length bytes) (λ s t. touches t s) free).0 refl)
answer_sound v (Read addr len) is h = grind (arith, unless_sound, entered_sound, read_entry)
answer_sound v (Submit ch t) is h = grind (arith, unless_sound, submit_sound)
answer_sound v (Issue ch) is h = unless_sound v (channel_fault v ch) _ h (λ none. issue_sound v ch h (channel_open v ch none))
answer_sound v (Pause ch) is h = unless_sound v (channel_fault v ch) (Done, with_pause v ch true) h (λ none. pause_sound v ch true h (channel_open v ch none))
answer_sound v (Resume ch) is h = grind (arith, unless_sound, pause_sound, channel_open)
answer_sound v (Terminate ch) is h = grind (arith, unless_sound, terminate_sound, channel_open)
answer_sound v (Step ch) is h = turn_sound_law v ch h
answer_sound v (Mark kind s) is h = grind (arith, unless_sound, entered_sound, mark_may)
answer_sound v Unmark is h = entered_sound v Unmarked h tt refl
answer_sound v (Raise event) is h = grind (arith, unless_sound, entered_sound, ltb-false, cause_none)
answer_sound v Checkpoint is h =
    unless_sound v (checkpoint_fault v) (Done, checkpointed v) h (λ none. checkpoint_sound v h (none_runs (first_running v (λ _. true)) none))
answer_sound v call is h = h

-- ---- the laws

pub new_views_are_sound : NewViewsAreSound
new_views_are_sound = new_sound

pub answers_stay_sound : AnswersStaySound
answers_stay_sound v w call reply is h a = answered v w call reply IsSound h (answer_sound v call is h) a

pub calls_stay_sound : CallsStaySound
calls_stay_sound v w [] [] all h a = let s = subst IsSound (sym a) h in (s, (s, a))
calls_stay_sound v w [] (r ∷ rs) all h a = absurd a
calls_stay_sound v w (c ∷ cs) [] all h a = absurd a
calls_stay_sound v w (c ∷ cs) (r ∷ rs) all h a =
    let next = answers_stay_sound v a.0 c r (All-head IsCall c cs all) h a.1 in
    let rest = calls_stay_sound a.0 w cs rs (All-tail IsCall c cs all) next a.2 in
    (rest.0, (h, (a.0, a.1, rest.1)))

-- ---- calls in a row

-- one more call
pub sound_push : (v w x : View) (calls : List Call) (replies : List Reply) (call : Call) (reply : Reply) → AreSoundAnswers v calls replies w
    → CallAnswers w call reply x → IsSound x → AreSoundAnswers v (calls ++ call ∷ []) (replies ++ reply ∷ []) x
sound_push v w x [] [] call reply h a s = (subst IsSound h.1 h.0, (x, subst (λ (u : View). CallAnswers u call reply x) h.1 a, (s, refl)))
sound_push v w x [] (r ∷ rs) call reply h a s = absurd h
sound_push v w x (c ∷ cs) [] call reply h a s = absurd h
sound_push v w x (c ∷ cs) (r ∷ rs) call reply h a s = (h.0, (h.1.0, h.1.1, sound_push h.1.0 w x cs rs call reply h.1.2 a s))
