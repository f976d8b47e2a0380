-- What an engine keeps when one channel changes and what runs doesn't: pause, resume, issue, submit.
use Rattle.dma_engine.proofs.Memory.{shown_both}
use Rattle.std.proofs.Common.{◌≡◌, ℕ, ◌+◌, List, [], ◌∷◌, ◌++◌, length, Option, None, Bool, refl, ap, sym, ◌∙◌, subst, arith, inl, inr}
use Rattle.std.specs.Prelude.{slice_set}
use Rattle.std.proofs.lemmas.Bool.{cases_lt, cases_eq}
use Rattle.std.proofs.lemmas.List.{length_push, get_or_append_left, get_or_push, take-append-le}
use Rattle.dma_mem.specs.{Places.Descriptor, Rules.IsTransfer}
use Rattle.dma_engine.specs.declared.entry.Entry.TheVariants.{Submitted, Issued}
use Rattle.dma_engine.specs.Object.{Object, ChannelState, after, channel, with_transfer, no_transfer, used, with_channel}
use Rattle.dma_engine.specs.View.{View, ChannelSchedule, runs, running_in, running, IsSound}
use Rattle.dma_engine.specs.Answer.{with_pause, submit_fault}
use Rattle.dma_engine.specs.inner.Holds.{Holds, IsPrepared, IsQueue, Parts, queue_submitted, view_of, schedule_of, HasSubmitted, object_in, runs_in, state_in}
use Rattle.dma_engine.specs.{declared.entry.Entry.Entry, declared.queue.Queue.Queue, declared.access.Ranges.Ranges, Turn.with_entry, inner.Ranges.AreOfRunning}
use Rattle.dma_engine.proofs.Changes.{LeadsTo, changed, holds_changed, leads_on, leads_still, run_moved, runs_here_law, runs_other, schedule_kept}
use Rattle.dma_engine.proofs.Changes.{submitted_kept, view_changed}
use Rattle.dma_engine.proofs.StaysSound.{front_submitted, issue_sound, pause_sound, runs_issued, runs_submitted, submit_sound}
use Rattle.dma_engine.proofs.{Queues.HoldsAt, Queues.slice_get_push, Queues.slice_get_push_last, WhatRuns.running_same}

module _ {p : Parts} {ch : ℕ} {q : Queue} (at : HoldsAt p ch q) where
  abbrev v : View
  v = view_of p

  abbrev o : Object
  o = object_in p

  abbrev c : ChannelState
  c = state_in p ch

  -- ---- a change that keeps what runs

  record StaysAt (r : Queue) (flags : List Bool) (history : List Entry) (to : Object) (state : ChannelState) : Type 0 where
    sound : IsSound (view_of (changed p ch r p.memory flags history p.steps))
    leads : LeadsTo p ch history to state
    image : o.image ≡ to.image
    events : flags ≡ to.events
    runs_still : running_in ch state (schedule_of r).taken ≡ runs_in p ch
    ranges_still : r.ranges ≡ q.ranges
    tied : IsQueue ch (channel p.base ch).submitted history p.memory r state

  holds_still : (r : Queue) (flags : List Bool) (history : List Entry) (to : Object) (state : ChannelState) → StaysAt r flags history to state
      → Holds (changed p ch r p.memory flags history p.steps)
  holds_still r flags history to state w =
      let s = v.schedule in
      let x = schedule_of r in
      let still : (d : ℕ) → runs to (slice_set s ch x) d ≡ runs o s d = λ d. elim (cases_eq d ch) [
        | inl e ↦ rw e (runs_here_law to s ch x at.within ∙ ap (λ y. running_in ch y x.taken) w.leads.here ∙ w.runs_still)
        | inr f ↦ runs_other o to s ch d x f (w.leads.others d f)
      ] in
      let same : running to (slice_set s ch x) ≡ running o s = running_same o to s (slice_set s ch x) (sym w.leads.many) (λ d l. still d) in
      holds_changed at r p.memory flags history p.steps to state (record {
        sound = w.sound;
        leads = w.leads;
        shown = at.holds.shown ∙ shown_both o to s (slice_set s ch x) w.image (sym same);
        events = w.events;
        tied = w.tied;
        prepared = subst (IsPrepared p.made) (sym w.runs_still) (at.holds.prepared ch);
        ranges = subst (λ (y : Option Ranges). AreOfRunning y (running_in ch state x.taken)) (sym w.ranges_still)
            (subst (AreOfRunning q.ranges) (sym w.runs_still) at.ranges);
        machines = λ d e l k machine. machine;
      })

  -- ---- pause, resume, and room

  -- the queue with other room, paused or not
  abbrev pub with_room_paused : ℕ → ℕ → Bool → Queue
  with_room_paused a b paused =
      record q { indices = record { items = q.indices.items; spare = a }; outcomes = record { items = q.outcomes.items; spare = b }; paused = paused }

  pub view_paused : (a b : ℕ) (paused : Bool)
      → view_of (changed p ch (with_room_paused a b paused) p.memory p.events p.history p.steps) ≡ with_pause v ch paused
  view_paused a b paused =
      view_changed p ch (with_room_paused a b paused) p.memory p.events p.history p.steps
      ∙ ap (λ (x : ChannelSchedule). record v { schedule = slice_set v.schedule ch (record x { paused = paused }) }) (sym at.schedule_is)

  -- neither the room of a queue nor its pause changes what its channel does
  pub holds_paused : (a b : ℕ) (paused : Bool) → Holds (changed p ch (with_room_paused a b paused) p.memory p.events p.history p.steps)
  holds_paused a b paused =
      let t = at.tied in
      holds_still (with_room_paused a b paused) p.events p.history o c (record {
        sound = subst IsSound (sym (view_paused a b paused)) (pause_sound v ch paused at.holds.sound at.there);
        leads = leads_still p ch;
        image = refl;
        events = at.holds.events;
        runs_still = sym at.runs_is;
        ranges_still = refl;
        tied = record { submitted = t.submitted; outcomes = t.outcomes; issued = t.issued; halted = t.halted; machine = t.machine };
      })

  -- ---- issue and submit

  -- the view with one more entry, where the queue's schedule stays
  pub view_entered : (r : Queue) (memory : List ℕ) (flags : List Bool) (e : Entry) → schedule_of r ≡ schedule_of q
      → view_of (changed p ch r memory flags (p.history ++ e ∷ []) p.steps) ≡ with_entry v e
  view_entered r memory flags e same =
      view_changed p ch r memory flags (p.history ++ e ∷ []) p.steps
      ∙ ap (λ s. record { base = v.base; history = p.history ++ e ∷ []; steps = p.steps; schedule = s }) (schedule_kept at r same)

  -- an entry that changes one channel alone, and not what runs on it
  holds_after : (r : Queue) (e : Entry) (state : ChannelState) → IsSound (with_entry v e) → after o e ≡ with_channel o ch state → schedule_of r ≡ schedule_of q
      → r.ranges ≡ q.ranges → running_in ch state (schedule_of r).taken ≡ runs_in p ch
      → IsQueue ch (channel p.base ch).submitted (p.history ++ e ∷ []) p.memory r state → Holds (changed p ch r p.memory p.events (p.history ++ e ∷ []) p.steps)
  holds_after r e state sound is same ranges still tied =
      holds_still r p.events (p.history ++ e ∷ []) (after o e) state (record {
        sound = subst IsSound (sym (view_entered r p.memory p.events e same)) sound;
        leads = leads_on p ch e state at.there (sym (ap (λ (x : Object). x.marks) is)) (ap (λ (x : Object). x.channels) is);
        image = sym (ap (λ (x : Object). x.image) is);
        events = at.holds.events ∙ sym (ap (λ (x : Object). x.events) is);
        runs_still = still;
        ranges_still = ranges;
        tied = tied;
      })

  pub holds_issued : Holds (changed p ch (record q { issued = q.given }) p.memory p.events (p.history ++ Issued ch ∷ []) p.steps)
  holds_issued =
      let t = at.tied in
      holds_after (record q { issued = q.given }) (Issued ch) (record c { issued = used c }) (issue_sound v ch at.holds.sound at.there) refl refl refl
      (runs_issued ch c (schedule_of q).taken ∙ sym at.runs_is) (record {
        submitted = submitted_kept (p.history ++ Issued ch ∷ []) (λ k x. slice_get_push p.history (Issued ch) x k) t.submitted;
        outcomes = t.outcomes;
        issued = t.given;
        halted = t.halted;
        machine = t.machine;
      })

  -- one more index and one more cookie
  submitted_more : (t : Descriptor) → let cookie = used c + 1 in
      HasSubmitted ch (channel p.base ch).submitted (p.history ++ Submitted ch t cookie ∷ []) q.forgotten cookie (q.indices.items ++ length p.history ∷ [])
      c.forgotten (c.submitted ++ t ∷ [])
  submitted_more t =
      let ts = c.submitted in
      let kept = length (channel p.base ch).submitted in
      let indices = q.indices.items in
      let h = at.tied in
      record {
        forgotten = h.forgotten;
        given = omega (arith, length_push ts t);
        many = omega (arith, length_push indices (length p.history), length_push ts t, h.many);
        first = take-append-le kept ts (t ∷ []) (omega (arith, h.many)) ∙ h.first;
        indexed = λ k less. elim (cases_lt k (length indices)) [
          | inl old ↦
              let index = get_or_append_left indices (length p.history ∷ []) 0 k old in
              let is = get_or_append_left ts (t ∷ []) no_transfer (kept + k) (omega (arith, h.many, old)) in
              let s = h.indexed k old in
              (s.0, rw (index, is) (slice_get_push p.history _ _ _ s.1))
          | inr new ↦
              let last : k ≡ length indices = omega (arith, length_push indices (length p.history)) in
              let index = get_or_push indices (length p.history) 0 k (sym last) in
              let is = get_or_push ts t no_transfer (kept + k) (omega (arith, h.many, last)) in
              (used c + 1, rw (index, is) (slice_get_push_last p.history _ (length p.history) refl))
        ];
      }

  pub holds_submitted : (spare : ℕ) (t : Descriptor) → IsTransfer t → submit_fault v ch t ≡ None → let cookie = used c + 1 in
      Holds (changed p ch (queue_submitted q spare (length p.history) cookie) p.memory p.events (p.history ++ Submitted ch t cookie ∷ []) p.steps)
  holds_submitted spare t rules none =
      let cookie = used c + 1 in
      let h = at.tied in
      holds_after (queue_submitted q spare (length p.history) cookie) (Submitted ch t cookie) (with_transfer c t)
      (submit_sound v ch t rules at.holds.sound none) refl refl refl (runs_submitted ch c t (schedule_of q).taken at.agrees ∙ sym at.runs_is) (record {
        submitted = submitted_more t;
        outcomes = h.outcomes;
        issued = h.issued;
        halted = h.halted;
        machine = run_moved p.memory p.memory q.channel c (with_transfer c t) (λ u loaded is run. rw (front_submitted c u t is) run) h.machine;
      })
