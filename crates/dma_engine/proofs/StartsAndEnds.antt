-- What an engine keeps and answers when a front starts, finishes or is terminated.
use Rattle.std.proofs.Common.{◌≡◌, ◌≢◌, ℕ, ◌+◌, ◌-◌, ◌<◌, ◌≤◌, List, [], ◌∷◌, ◌++◌, length, Option, Some, None, Bool, true, false, refl, ap, sym, ◌∙◌}
use Rattle.std.proofs.Common.{subst, arith, Ok, map, take, drop, inl, inr, zero, suc, add-one}
use Rattle.std.specs.Prelude.{slice_index_or, slice_set, is_some, ◌==◌, unwrap_or, IsSomeAnd, if◌then◌else◌, Ok}
use Rattle.std.proofs.{lemmas.Bool.ne_eqb, lemmas.Bool.cases_eq, lemmas.Bool.eq-eqb, lemmas.Option.some_pair_parts, lemmas.List.length-drop}
use Rattle.std.proofs.{lemmas.List.get_or-drop, lemmas.List.map_more, lemmas.List.Elements.All-append}
use Rattle.dma_engine.specs.Object.{ChannelState, channel, front, issued_front, finished, unfinished, Object, after, front_of, no_transfer, with_outcome}
use Rattle.dma_engine.specs.Object.{with_all_aborted, outcome_of, aborted, is_failure, with_channel, with_front_laid}
use Rattle.dma_engine.specs.View.{View, ChannelSchedule, RunningTransfer, IsSound, runs, running_in, size, channels, memory_shown, schedule_at}
use Rattle.dma_engine.specs.Turn.{front_cookie, first_conflicting, start_turn, with_entry, with_step, with_taken, turn}
use Rattle.dma_engine.specs.Answer.{CallAnswers, done_on, terminated}
use Rattle.dma_engine.specs.inner.Due.{MayStart, Finishes, IsDue, front_with_cookie}
use Rattle.dma_engine.specs.inner.Holds.{Holds, IsPrepared, Parts, view_of, schedule_of, queue_finished, queue_started, queue_terminated, IsQueue, object_in}
use Rattle.dma_engine.specs.{inner.Found.front_in, inner.Found.known_with, declared.entry.Entry.Entry, View.state_at}
use Rattle.dma_engine.specs.{declared.call.Reply.TheVariants.Turned, declared.call.Reply.TheVariants.Refused, declared.entry.Entry.TheVariants.Finished}
use Rattle.dma_engine.specs.{declared.entry.Entry.TheVariants.Terminated, declared.outcome.Outcome.Outcome, declared.outcome.TransResult.TransResult}
use Rattle.dma_engine.specs.{declared.fault.EngineFault.TheVariants.NoMemory, declared.queue.Queue.Queue, inner.Accesses.named, declared.access.Ranges.Ranges}
use Rattle.dma_engine.specs.{inner.Ranges.AreOfRunning, inner.Ranges.HasRangesOf, declared.outcome.TransResult.TheVariants.Aborted, inner.Holds.state_in}
use Rattle.dma_mem.specs.Places.{Descriptor, lies_below, size_of, destinations}
use Rattle.dma_mem.specs.{declared.call.Call.TheVariants.Step, Image.laid, Limits.most_transfer_bytes, Meeting.IsFree}
use Rattle.dma_chan.specs.{Channel.loaded, Compiled.compiled, Ready.OnPages, Traffic.stored_after}
use Rattle.dma_chan.proofs.{LayerLaws.starts_at, ShapeLaws.stored_is, CopyAlone.laid_none}
use Rattle.dma_engine.proofs.Changes.{changed, holds_changed, leads_still, runs_here_law, runs_other, view_changed, leads_on, submitted_kept}
use Rattle.dma_engine.proofs.Queues.{HoldsAt, front_issued, holds_at, many_queues, runs_front, front_known, runs_none, slice_get_push}
use Rattle.dma_engine.proofs.StepCases.{start_turn_law, stepped_so, Due, due_there, finish_turn, step_starved}
use Rattle.dma_engine.proofs.{Conflicts.few_issued, Conflicts.front_found, ConflictsByRanges.below_more_law, Memory.shown_started}
use Rattle.dma_engine.proofs.{Memory.shown_ended, Sizes.size_small, StaysSound.stepped_sound, StaysSound.terminate_sound, TransferRules.IsGood}
use Rattle.dma_engine.proofs.{TransferRules.good_front, TransferRules.free_others, Memory.shown_both, WhatRuns.running_same, WhatRuns.below, WhatRuns.above}
use Rattle.dma_engine.proofs.{Fronts.Runs, Fronts.done_by, Fronts.running}
use Rattle.dma_engine.specs.declared.turn.Turn.TheVariants.{Held, Started, Finished as TurnFinished}
use Rattle.dma_engine.specs.declared.turn.Turn.{Turn}

-- ---- the front that starts

-- the front and its cookie, from the pair that was found
pub front_with_cookie_law : (c : ChannelState) {u : Descriptor} {k : ℕ} → Some (u, k) ≡ front_with_cookie c → (issued_front c ≡ Some u) × (k ≡ finished c + 1)
front_with_cookie_law c {u} {k} h = grind (arith, some_pair_parts)

-- a queue whose front has started, with the ranges that it keeps
pub record IsStarted (q r : Queue) (t : Descriptor) : Type 0 where
  pub ranges : Ranges
  pub has : HasRangesOf ranges t
  pub is : r ≡ queue_started q t ranges

pub now_started : (q r : Queue) (t : Descriptor) → IsSomeAnd r.ranges (λ ranges. HasRangesOf ranges t × (r ≡ queue_started q t ranges)) → IsStarted q r t
now_started q r t h = grind arith

-- it keeps these ranges
pub started_with : (q : Queue) (t : Descriptor) (x : Option Ranges) → IsSomeAnd x (λ ranges. HasRangesOf ranges t)
    → IsSomeAnd x (λ ranges. HasRangesOf ranges t × (record q { channel = loaded (compiled t); ranges = x } ≡ queue_started q t ranges))
started_with q t x h = grind (arith)

-- a queue on which nothing runs keeps no ranges
pub idle_ranges : {p : Parts} {ch : ℕ} {q : Queue} → HoldsAt p ch q → (schedule_at (view_of p) ch).taken ≡ None → q.ranges ≡ None
idle_ranges {p} {ch} {q} at idle = grind arith

-- The front of the channel is t, and it is found among the transfers of the base and of the history.
pub record FrontFound (p : Parts) (ch : ℕ) (q : Queue) (kept : List Descriptor) (history : List Entry) (t : Descriptor) : Type 0 where
  pub at : HoldsAt p ch q
  pub known : q.issued ≤ known_with kept q
  pub is : front_in q kept history ≡ Some t
  pub issued : issued_front (state_in p ch) ≡ Some t
  pub good : IsGood (size (view_of p)) t
  pub low : lies_below t 4294967295 ≡ true

pub found_front : (p : Parts) → Holds p → (ch index : ℕ) (q : Queue) (kept : List Descriptor) (history : List Entry) (t : Descriptor) → index ≡ ch
    → q ≡ slice_index_or p.queues index q → kept ≡ (channel p.base index).submitted → history ≡ p.history → ch < channels (view_of p)
    → issued_front (state_in p ch) ≡ Some t → FrontFound p ch q kept history t
found_front p h ch index q kept history t same found keeps all there issued =
    let read : q ≡ slice_index_or p.queues ch q = rw same at found in
    let at = holds_at p h ch q (omega (arith, there, many_queues p h)) read in
    let good = good_front p h ch t (front_issued (state_in p ch) t issued) in
    record {
      at = at;
      known = rw (keeps, same) (few_issued at);
      is = rw (keeps, same, all) (front_found at ∙ issued);
      issued = issued;
      good = good;
      low = below_more_law t (size (view_of p)) 4294967295 (size_small p h) good.1;
    }

-- ---- a start

pub start_is : (v : View) (ch : ℕ) (t : Descriptor) → MayStart v ch → issued_front (state_at v ch) ≡ Some t → first_conflicting v t ≡ None
    → turn v ch ≡ (Ok (Started (front_cookie v ch)), with_taken v ch (Some 0))
start_is v ch t may some none = start_turn_law v ch t may some ∙ ap (start_turn v ch) none

-- a start that is out of memory
pub start_starved : (v w : View) (ch : ℕ) (t : Descriptor) → MayStart v ch → issued_front (state_at v ch) ≡ Some t → first_conflicting v t ≡ None
    → w ≡ v → CallAnswers v (Step ch) (Refused NoMemory) w
start_starved v w ch t may some none same = grind (arith, stepped_so, start_is)

pub held_is : (v : View) (ch other cookie : ℕ) (t : Descriptor) → MayStart v ch → issued_front (state_at v ch) ≡ Some t
    → Some (other, cookie) ≡ named (first_conflicting v t) → turn v ch ≡ (Ok (Held other cookie), v)
held_is v ch other cookie t may some held = grind (arith, start_turn_law)

-- the front, if it is known
pub front_is_law : (c : ChannelState) (t : Descriptor) → front c ≡ Some t → front_of c ≡ t
front_is_law c t h = ap (λ o. unwrap_or o no_transfer) h

module _ {p : Parts} {ch : ℕ} {q : Queue} (at : HoldsAt p ch q) where
  abbrev v : View
  v = view_of p

  abbrev old : Object
  old = object_in p

  abbrev s : List ChannelSchedule
  s = v.schedule

  abbrev c : ChannelState
  c = state_in p ch

  view_started : (t : Descriptor) (u : Ranges) → view_of (changed p ch (queue_started q t u) p.memory p.events p.history p.steps) ≡ with_taken v ch (Some 0)
  view_started t u =
      view_changed p ch (queue_started q t u) p.memory p.events p.history p.steps
      ∙ ap (λ (x : ChannelSchedule). record v { schedule = slice_set s ch (record x { taken = Some 0 }) }) (sym at.schedule_is)

  pub holds_started : (t : Descriptor) (u : Ranges) → MayStart v ch → issued_front c ≡ Some t → first_conflicting v t ≡ None
      → OnPages p.made (destinations t) → HasRangesOf u t → Holds (changed p ch (queue_started q t u) p.memory p.events p.history p.steps)
  holds_started t u may some none pages ranges =
      let h = at.holds in
      let r = queue_started q t u in
      let x : ChannelSchedule = schedule_of r in
      let tied = at.tied in
      let is : front c ≡ Some t = front_issued c t some in
      let good = good_front p h ch t is in
      let idle_there : (schedule_of q).taken ≡ None = sym (ap (λ (y : ChannelSchedule). y.taken) at.schedule_is) ∙ may.3 in
      let now : RunningTransfer = record { ch = ch; cookie = finished c + 1; transfer = t; taken = 0 } in
      let there_is : running_in ch c x.taken ≡ Some now = runs_front ch c t 0 is in
      let rested : runs old s ch ≡ None = at.runs_is ∙ ap (running_in ch c) idle_there in
      let others : (d : ℕ) → d ≢ ch → runs old s d ≡ runs old (slice_set s ch x) d = λ d k. sym (runs_other old old s ch d x k refl) in
      holds_changed at r p.memory p.events p.history p.steps old c (record {
        sound = subst IsSound (sym (view_started t u)) (stepped_sound v ch _ h.sound (start_is v ch t may some none));
        leads = leads_still p ch;
        shown = h.shown ∙ sym (shown_started ch old old s (slice_set s ch x) (record { channels = refl; there = at.there; others = others }) now refl rested
            (runs_here_law old s ch x at.within ∙ there_is) (stored_is t good.0).none);
        events = h.events;
        tied = record {
          submitted = tied.submitted;
          outcomes = tied.outcomes;
          issued = tied.issued;
          halted = tied.halted;
          machine = rw is (starts_at t p.memory good.0);
        };
        prepared = subst (IsPrepared p.made) (sym there_is) pages;
        ranges = subst (AreOfRunning (Some u)) (sym there_is) ranges;
        machines = λ d i l k machine. machine;
      })

  pub start_answers : (cookie : ℕ) (t : Descriptor) (u : Ranges) → MayStart v ch → issued_front c ≡ Some t → first_conflicting v t ≡ None
      → cookie ≡ front_cookie v ch
      → CallAnswers v (Step ch) (Turned (Started cookie)) (view_of (changed p ch (queue_started q t u) p.memory p.events p.history p.steps))
  start_answers cookie t u may some none number = grind (arith, view_started, stepped_so, start_is)

  -- ---- a queue whose front, or all of whose cookies, have finished

  -- When nothing runs on the channel any more, and the image has got what the front had stored, the memory shown is the
  -- same.
  shown_over : (o : Object) (x : ChannelSchedule) → length o.channels ≡ channels v → ((d : ℕ) → d ≢ ch → channel o d ≡ channel old d) → x.taken ≡ None
      → o.image ≡ laid old.image (front_of c) (done_on v ch) → p.memory ≡ memory_shown o (slice_set s ch x)
  shown_over o x many others none image = at.holds.shown ∙ by _ refl where
    t : List ChannelSchedule
    t = slice_set s ch x

    now : runs o t ch ≡ None
    now = runs_here_law o s ch x at.within ∙ ap (running_in ch (channel o ch)) none

    rest : (d : ℕ) → d ≢ ch → runs old s d ≡ runs o t d
    rest d k = sym (runs_other old o s ch d x k (others d k))

    by : (b : Bool) → is_some q.channel.program ≡ b → memory_shown old s ≡ memory_shown o t
    by true loaded =
        let r = running at loaded in
        let here : RunningTransfer = record { ch = ch; cookie = finished c + 1; transfer = r.transfer; taken = q.channel.taken } in
        let laid_is : o.image ≡ laid old.image here.transfer (stored_after here.transfer here.taken) = image
        ∙ ap (λ y. laid old.image (front_of c) (done_by y)) r.runs_is
        ∙ ap (λ u. laid old.image u (stored_after here.transfer here.taken)) (front_is_law c r.transfer r.is) in
        let free = free_others old s ch here at.holds.sound.fits at.there r.runs_is in
        sym (shown_ended ch old o s t (record { channels = sym many; there = at.there; others = rest }) here r.runs_is now laid_is
        (All-append (λ y. IsFree here.transfer y.transfer) (below old s ch) (above old s ch) free.0 free.1))
    by false unloaded =
        let before : runs old s ch ≡ None = sym (runs_none at unloaded) in
        let nothing : o.image ≡ old.image = image ∙ ap (λ y. laid old.image (front_of c) (done_by y)) before ∙ laid_none old.image (front_of c) in
        let same = running_same old o s t (sym many) (λ d l. elim (cases_eq d ch) [ inl e ↦ rw e (now ∙ sym before) | inr k ↦ sym (rest d k) ]) in
        shown_both old o s t (sym nothing) (sym same)

  -- What an engine keeps after such a change.
  holds_ended : (r : Queue) (e : Entry) (steps : ℕ) (state : ChannelState) → let to = changed p ch r p.memory p.events (p.history ++ e ∷ []) steps in
      IsSound (view_of to) → after old e ≡ with_channel (with_front_laid old ch (done_on v ch)) ch state → ((schedule_of r).taken ≡ None) × (r.ranges ≡ None)
      → IsQueue ch (channel p.base ch).submitted (p.history ++ e ∷ []) p.memory r state → Holds to
  holds_ended r e steps state sound is stopped tied =
      let w = after old e in
      let to = leads_on p ch e state at.there (sym (ap (λ (o : Object). o.marks) is)) (ap (λ (o : Object). o.channels) is) in
      holds_changed at r p.memory p.events (p.history ++ e ∷ []) steps w state (record {
        sound = sound;
        leads = to;
        shown = shown_over w (schedule_of r) to.many to.others stopped.0 (ap (λ (o : Object). o.image) is);
        events = at.holds.events ∙ sym (ap (λ (o : Object). o.events) is);
        tied = tied;
        prepared = rw stopped.0 tt;
        ranges = rw (stopped.0, stopped.1) tt;
        machines = λ d i l k machine. machine;
      })

  -- ---- terminate

  pub view_terminated : (spare : ℕ) (outcomes : List Outcome) (issued : ℕ)
      → view_of (changed p ch (queue_terminated q spare outcomes issued) p.memory p.events (terminated v ch).history p.steps) ≡ terminated v ch
  view_terminated spare outcomes issued = view_changed p ch (queue_terminated q spare outcomes issued) p.memory p.events (terminated v ch).history p.steps

  pub holds_terminated : (spare : ℕ) → Holds (changed p ch
      (queue_terminated q spare (aborted (done_on v ch) (drop (length c.outcomes) c.submitted)) q.given) p.memory p.events (terminated v ch).history p.steps)
  holds_terminated spare =
      let t = at.tied in
      let outcomes = aborted (done_on v ch) (drop (length c.outcomes) c.submitted) in
      let e = Terminated ch (done_on v ch) (unfinished c) in
      holds_ended (queue_terminated q spare outcomes q.given) e p.steps (with_all_aborted c (done_on v ch))
      (subst IsSound (sym (view_terminated spare outcomes q.given)) (terminate_sound v ch at.holds.sound at.there)) refl (refl, refl) (record {
        submitted = submitted_kept (p.history ++ e ∷ []) (λ k x. slice_get_push p.history e x k) t.submitted;
        outcomes = ap (λ l. l ++ outcomes) t.outcomes;
        issued = t.given;
        halted = refl;
        machine = tt;
      })

  -- the view after a finish
  view_finished : (spare : ℕ) (outcome : Outcome) (halted : Bool) (e : Entry)
      → view_of (changed p ch (queue_finished q spare outcome halted) p.memory p.events (p.history ++ e ∷ []) (p.steps + 1)) ≡ with_step
      (with_taken (with_entry v e) ch None)
  view_finished spare outcome halted e =
      view_changed p ch (queue_finished q spare outcome halted) p.memory p.events (p.history ++ e ∷ []) (p.steps + 1)
      ∙ ap (λ (x : ChannelSchedule). record v
      { history = p.history ++ e ∷ []; steps = p.steps + 1; schedule = slice_set s ch (record x { taken = None }) }) (sym at.schedule_is)

-- ---- a finish

-- the residue of the front, from that of the transfer that was found
pub finish_left : (c : ChannelState) {u : Descriptor} {len stored done : ℕ} → issued_front c ≡ Some u → len ≡ size_of u → stored ≡ done
    → len - stored ≡ size_of (front_of c) - done
finish_left c {u} some size is = grind (arith, front_is_law, front_issued)

module _ {p : Parts} {ch : ℕ} {q : Queue} (how : TransResult) (d : Due p ch q (Finishes (view_of p) how)) where
  abbrev now : View
  now = view_of p

  abbrev done : ℕ
  done = done_on now ch

  abbrev state : ChannelState
  state = state_in p ch

  abbrev answer : Turn
  answer = TurnFinished (front_cookie now ch) how (size_of (front_of state) - done)

  -- the turn of a step that finishes the front, in terms of the bytes that are stored
  pub finish_is : turn now ch ≡ (Ok answer, with_step (with_taken (with_entry now (Finished ch how done)) ch None))
  finish_is = grind (arith, finish_turn, front_is_law)

  pub holds_finished : (spare : ℕ) → Holds (changed p ch (queue_finished q spare (outcome_of how (front_of state) done) (is_failure how)) p.memory p.events
      (p.history ++ Finished ch how done ∷ []) (p.steps + 1))
  holds_finished spare =
      let at = d.it.at in
      let t = at.tied in
      let e = Finished ch how done in
      let outcome = outcome_of how (front_of state) done in
      holds_ended at (queue_finished q spare outcome (is_failure how)) e (p.steps + 1) (with_outcome state how done)
      (subst IsSound (sym (view_finished at spare outcome (is_failure how) e)) (stepped_sound now ch _ at.holds.sound finish_is)) refl (refl, refl) (record {
        submitted = submitted_kept (p.history ++ e ∷ []) (λ k x. slice_get_push p.history e x k) t.submitted;
        outcomes = ap (λ l. l ++ outcome ∷ []) t.outcomes;
        issued = t.issued;
        halted = refl;
        machine = tt;
      })

  pub finish_answers : (spare : ℕ) (outcome : Outcome) (halted : Bool) → CallAnswers now (Step ch) (Turned answer)
      (view_of (changed p ch (queue_finished q spare outcome halted) p.memory p.events (p.history ++ Finished ch how done ∷ []) (p.steps + 1)))
  finish_answers spare outcome halted = grind (arith, view_finished, stepped_so, finish_is)

-- a finish that is out of memory
pub finish_starved : (p : Parts) → Holds p → (ch : ℕ) (how : TransResult) → IsDue (view_of p) ch (Finishes (view_of p) how)
    → CallAnswers (view_of p) (Step ch) (Refused NoMemory) (view_of p)
finish_starved p h ch how asked =
    let d = (due_there p h ch (Finishes (view_of p) how) asked).1 in
    step_starved (view_of p) ch _ (Finished ch how (done_on (view_of p) ch)) (finish_is how d) refl

-- the front that runs isn't finished
pub unfinished_some : {p : Parts} {ch : ℕ} {q : Queue} → Runs p ch q → 0 < unfinished (state_in p ch)
unfinished_some {p} {ch} r = let known = front_known (state_in p ch) r.transfer r.issued in omega (arith, known.within)

-- ---- the outcomes of a terminate

pub aborted_more : (done : ℕ) (ts : List Descriptor) (k : ℕ) → k < length ts
    → aborted done (take (k + 1) ts) ≡ aborted done (take k ts) ++ outcome_of Aborted (slice_index_or ts k no_transfer) (if k == 0 then done else 0) ∷ []
aborted_more done [] k h = absurd (omega arith)
aborted_more done (t ∷ ts) zero h = refl
aborted_more done (t ∷ ts) (suc k) h =
    let f : Descriptor → Outcome = λ u. outcome_of Aborted u 0 in
    let e : (suc k == 0) ≡ false = ne_eqb (suc k) 0 (λ z. omega arith) in
    let more : map f (take (suc k) ts) ≡ map f (take k ts) ++ f (slice_index_or ts k no_transfer) ∷ [] =
    rw add-one at (map_more f ts k no_transfer (omega arith)) in
    rw (add-one, e) (ap (λ l. outcome_of Aborted t done ∷ l) more)

same_test : (k n first : ℕ) → first + k ≡ n → (k == 0) ≡ (n == first)
same_test k n first h = grind (arith, eq-eqb, ne_eqb)

-- the outcomes of those from number `first` up to number n
abbrev aborted_to : ℕ → List Descriptor → ℕ → ℕ → List Outcome
aborted_to done ts first n = aborted done (take (n - first) (drop first ts))

pub aborted_step : (done : ℕ) (ts : List Descriptor) (first n stored residue : ℕ) (u : Descriptor) (list : List Outcome) → first ≤ n → n < length ts
    → list ≡ aborted_to done ts first n → u ≡ slice_index_or ts n no_transfer → stored ≡ (if n == first then done else 0)
    → residue ≡ size_of u - stored → list ++ record { result = Aborted; residue = residue } ∷ [] ≡ aborted_to done ts first (n + 1)
aborted_step done ts first n stored residue u list low high so_far is part rest =
    let k = n - first in
    let less : k < length (drop first ts) = omega (arith, length-drop first ts) in
    let next : n + 1 - first ≡ k + 1 = omega arith in
    let back : first + k ≡ n = omega arith in
    let at : slice_index_or (drop first ts) k no_transfer ≡ u = get_or-drop first ts k no_transfer ∙ ap (λ i. slice_index_or ts i no_transfer) back ∙ sym is in
    let test : (k == 0) ≡ (n == first) = same_test k n first back in
    let made : residue ≡ size_of u - (if k == 0 then done else 0) = rest ∙ ap (λ x. size_of u - x) (part ∙ ap (λ b. if b then done else 0) (sym test)) in
    ap (λ l. l ++ record { result = Aborted; residue = residue } ∷ []) so_far
    ∙ ap (λ r. aborted done (take k (drop first ts)) ++ record { result = Aborted; residue = r } ∷ []) made
    ∙ ap (λ x. aborted done (take k (drop first ts)) ++ outcome_of Aborted x (if k == 0 then done else 0) ∷ []) (sym at)
    ∙ sym (aborted_more done (drop first ts) k less)
    ∙ ap (λ i. aborted done (take i (drop first ts))) (sym next)

-- ---- the readings of what runs

-- what its machine has stored
pub stored_small : {p : Parts} {ch : ℕ} {q : Queue} → HoldsAt p ch q → is_some q.channel.program ≡ true → (q.channel.stored ≤ most_transfer_bytes)
    × (q.channel.stored ≡ done_on (view_of p) ch)
stored_small {p} {ch} {q} at loaded =
    let r = running at loaded in
    let stores = stored_is r.transfer r.rules in
    let is : q.channel.stored ≡ stored_after r.transfer q.channel.taken = r.machine.stored in
    (omega (arith, is, stores.at_most q.channel.taken, r.rules.short), is ∙ sym (ap done_by r.runs_is))
