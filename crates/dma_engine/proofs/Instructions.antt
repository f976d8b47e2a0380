-- What an engine keeps and answers when its channel executes an instruction and its front doesn't finish.
use Rattle.std.proofs.Common.{◌≡◌, ◌≢◌, ℕ, ◌+◌, ◌<◌, List, ◌∷◌, ◌++◌, length, map, Some, Bool, true, refl, ap, sym, ◌∙◌, subst, arith, [], drop}
use Rattle.std.proofs.Common.{false, inl, inr, take}
use Rattle.std.specs.Prelude.{slice_index_or, slice_set, is_some, slice_index, Ok}
use Rattle.std.specs.{Option.option_to_list, List.All, List.Contains, List.zip, Map.keys_of}
use Rattle.dma_insn.specs.declared.chip.ChipInsn.TheVariants.{Sev, Wfe, St}
use Rattle.dma_insn.specs.declared.chip.ChipInsn.{ChipInsn}
use Rattle.dma_mem.specs.Places.{Descriptor, Apart, moves, sources, destinations, lies_below, is_free_of}
use Rattle.dma_mem.specs.{Image.put, Image.moves_of, Pages.Paged, Meeting.IsFree, declared.marks.MarkKind.TheVariants.Writing}
use Rattle.dma_mem.specs.{Marking.meets_mark, declared.call.Call.TheVariants.Step}
use Rattle.dma_chan.specs.Channel.{ChannelValue, stepped, ahead_of}
use Rattle.dma_chan.specs.Traffic.{member, stored_after, burst, read_places, written_places}
use Rattle.dma_chan.specs.Layer.{Shared, StepAgrees, step_at}
use Rattle.dma_chan.specs.declared.turn.ChanTurn.TheVariants.{Moved}
use Rattle.dma_chan.specs.{inner.At.IsAt, Exec.read_at, Ready.OnPages, Ready.ready_of, declared.turn.ChanTurn.ChanTurn}
use Rattle.dma_engine.specs.Object.{Object, ChannelState, channel, front, finished, after}
use Rattle.dma_engine.specs.View.{View, ChannelSchedule, RunningTransfer, AreFree, runs, running_in, running, with_stored, memory_shown, IsSound}
use Rattle.dma_engine.specs.inner.Holds.{Holds, IsPrepared, IsRun, Parts, view_of, schedule_of, taken_of, object_in, state_in}
use Rattle.dma_engine.specs.inner.Due.{Adds, IsDue, IsNext}
use Rattle.dma_engine.specs.{declared.entry.Entry.Entry, declared.queue.Queue.Queue, inner.Ranges.AreOfRunning, declared.entry.Entry.TheVariants.Passed}
use Rattle.dma_engine.specs.{declared.entry.Entry.TheVariants.Signalled, declared.entry.Signaller.TheVariants.Channel}
use Rattle.dma_engine.specs.{declared.fault.EngineFault.TheVariants.NoMemory, declared.call.Reply.TheVariants.Turned, declared.call.Reply.TheVariants.Refused}
use Rattle.dma_engine.specs.{Turn.next_moved, Turn.turn, Answer.CallAnswers}
use Rattle.std.proofs.lemmas.List.Elements.{Contains-append_cases, Contains-append_left, Contains-append_right, All-head, All-tail, All-map, All-weaker}
use Rattle.std.proofs.lemmas.List.Elements.{All-append, All-cons}
use Rattle.std.proofs.{lemmas.List.map-append, lemmas.List.get_or_default}
use Rattle.dma_mem.proofs.OverTransfers.{moves_writes, Contains_take, Contains_drop, over_sources}
use Rattle.dma_mem.proofs.{ImagePut.get_or_put_other, SharedPlaces.is_free_of_true}
use Rattle.dma_chan.proofs.{LayerLaws.step_is, ReadyLaws.ready_is, ShapeLaws.stored_is, TreeCosts.cost_is}
use Rattle.dma_engine.proofs.Changes.{LeadsTo, changed, holds_changed, leads_on, leads_still, run_kept, runs_here_law, runs_other, submitted_kept, view_changed}
use Rattle.dma_engine.proofs.Memory.{DiffersAt, shown_stored, shown_beside}
use Rattle.dma_engine.proofs.Queues.{holds_at, many_queues, runs_at, runs_front, taken_some}
use Rattle.dma_engine.proofs.StepCases.{Due, GoesOn, due_ahead, due_there, pass_turn, signal_turn, step_starved, stepped_so}
use Rattle.dma_engine.proofs.{ConflictsByRanges.ranges_stay, Fronts.Runs, Sizes.memory_size, StaysSound.stepped_sound, StaysSound.with_flags}
use Rattle.dma_engine.proofs.{TransferRules.free_others, WhatRuns.above, WhatRuns.below, WhatRuns.running_split}
use Rattle.dma_engine.specs.declared.turn.Turn.TheVariants.{Moved as TurnMoved, Moved}

-- ---- the step of the channel

abbrev pub shared : Parts → Shared
shared p = record { image = p.memory; flags = p.events }

-- the turn of the machine at the next instruction, and the memory and flags after it
abbrev pub step_of_it : {p : Parts} {ch : ℕ} {q : Queue} → Runs p ch q → ChanTurn × Shared
step_of_it {p} {ch} {q} r = step_at r.transfer q.channel.taken p.marks (shared p)

pub the_step : {p : Parts} {ch : ℕ} {q : Queue} (r : Runs p ch q) → StepAgrees r.transfer q.channel.taken p.marks (shared p) q.channel
the_step {p} {ch} {q} r =
    let below : lies_below r.transfer (length p.memory) ≡ true = ap (lies_below r.transfer) (memory_size p r.at.holds) ∙ r.below in
    step_is r.transfer q.channel.taken p.marks (shared p) q.channel r.rules below r.machine

-- the machine after it
abbrev pub machine_after : Parts → Queue → ChannelValue
machine_after p q = stepped p.marks q.channel p.memory p.events

-- the parts of the engine after it, with this memory, these flags and this history
abbrev pub moved_on : Parts → ℕ → Queue → List ℕ → List Bool → List Entry → Parts
moved_on p ch q memory flags history = changed p ch (record q { channel = machine_after p q }) memory flags history (p.steps + 1)

-- what a channel's machine requires to execute an instruction
pub record CanExecute (q : Queue) (i : ChipInsn) (m : Paged) : Type 0 where
  pub next : ahead_of q.channel ≡ Ok i
  pub loaded : is_some q.channel.program ≡ true
  pub count : q.channel.taken < 4294967295
  pub ready : ready_of q.channel m ≡ true

pub can_execute : {p : Parts} {ch : ℕ} {q : Queue} (i : ChipInsn) (m : Paged) → Due p ch q (IsNext i) → m.made ≡ p.made → CanExecute q i m
can_execute {p} {ch} {q} i m d same =
    let r = d.it in
    let prepared : OnPages p.made (destinations r.transfer) = subst (IsPrepared p.made) r.runs_is (r.at.holds.prepared ch) in
    let on : OnPages m.made (destinations r.transfer) = subst (λ made. OnPages made (destinations r.transfer)) (sym same) prepared in
    record {
      next = due_ahead i d;
      loaded = d.loaded;
      count = omega (arith, r.within, cost_is r.transfer r.rules);
      ready =
          ready_is r.transfer q.channel.taken p.memory m q.channel r.rules r.machine on;
    }

-- ---- one more instruction

taken_at : (t : Descriptor) (n : ℕ) (memory : List ℕ) (m : ChannelValue) → IsAt t n memory m → taken_of m ≡ Some n
taken_at t n memory m h = let loaded : is_some m.program ≡ true = ap is_some h.program in taken_some m loaded ∙ ap (λ k. Some k) h.taken

run_at : (t : Descriptor) (n : ℕ) (memory : List ℕ) (m : ChannelValue) (c : ChannelState) → front c ≡ Some t → IsAt t n memory m → IsRun memory m c
run_at t n memory m c is h = grind arith

module _ {p : Parts} {ch : ℕ} {q : Queue} (r : Runs p ch q) where
  abbrev old : Object
  old = object_in p

  abbrev schedule : List ChannelSchedule
  schedule = (view_of p).schedule

  -- what runs on the channel after k instructions
  abbrev now_at : ℕ → RunningTransfer
  now_at k = record { ch = ch; cookie = finished (channel old ch) + 1; transfer = r.transfer; taken = k }

  -- the machine after an instruction that moves, with this effect
  moved_at : (m : Shared) → step_of_it r ≡ (Moved, m) → IsAt r.transfer (q.channel.taken + 1) m.image (machine_after p q)
  moved_at m does =
      subst (λ (x : ChanTurn × Shared). IsAt r.transfer (q.channel.taken + 1) x.1.image (machine_after p q)) does
      ((the_step r).goes_on (ap (λ (x : ChanTurn × Shared). x.0) does))

  -- the view after it
  moved_view : (memory : List ℕ) (flags : List Bool) (history : List Entry) → (step_of_it r).0 ≡ Moved →
      view_of (moved_on p ch q memory flags history) ≡ (next_moved (record (view_of p) { history = history }) ch q.channel.taken).1
  moved_view memory flags history moved =
      let after_it : ChannelSchedule → View = λ x. record { base = p.base; history = history; steps = p.steps + 1; schedule = slice_set schedule ch x } in
      let taken = taken_at r.transfer (q.channel.taken + 1) (step_of_it r).1.image (machine_after p q) ((the_step r).goes_on moved) in
      view_changed p ch (record q { channel = machine_after p q }) memory flags history (p.steps + 1)
      ∙ ap (λ k. after_it (record { paused = q.paused; taken = k })) taken
      ∙ ap (λ (x : ChannelSchedule). after_it (record x { taken = Some (q.channel.taken + 1) })) (sym r.at.schedule_is)

  pub moved_answers : (memory : List ℕ) (flags : List Bool) (history : List Entry) → (step_of_it r).0 ≡ Moved →
      turn (view_of p) ch ≡ next_moved (record (view_of p) { history = history }) ch q.channel.taken →
      CallAnswers (view_of p) (Step ch) (Turned TurnMoved) (view_of (moved_on p ch q memory flags history))
  moved_answers memory flags history moved is =
      ap (λ w. (Turned TurnMoved, w)) (moved_view memory flags history moved) ∙ stepped_so (view_of p) _ ch TurnMoved is

  -- The machine moves, and so does the step. The history leads to the object `to`, in which the front has passed if a,
  -- and has signalled if b.
  pub record MovesTo (m : Shared) (history : List Entry) (to : Object) (a b : Bool) : Type 0 where
    pub does : step_of_it r ≡ (Moved, m)
    pub turn_is : turn (view_of p) ch ≡ next_moved (record (view_of p) { history = history }) ch q.channel.taken
    pub leads : LeadsTo p ch history to (with_flags (channel old ch) a b)
    pub events : m.flags ≡ to.events
    -- what the memory shows, if only what runs on this channel differs
    pub shown : (x : ChannelSchedule) → DiffersAt ch old to schedule (slice_set schedule ch x) →
        runs to (slice_set schedule ch x) ch ≡ Some (now_at (q.channel.taken + 1)) →
        m.image ≡ memory_shown to (slice_set schedule ch x)
    pub machines : (c : ℕ) (d : Queue) → c < length p.queues → c ≢ ch →
        IsRun p.memory (slice_index_or p.queues c d).channel (channel old c) → IsRun m.image (slice_index_or p.queues c d).channel (channel old c)

  holds_moved : (m : Shared) (history : List Entry) (to : Object) (a b : Bool) → MovesTo m history to a b →
      Holds (moved_on p ch q (step_of_it r).1.image (step_of_it r).1.flags history)
  holds_moved m history to a b w =
      let at = r.at in
      let c : ChannelState = with_flags (channel old ch) a b in
      let t = at.tied in
      let d : Queue = record q { channel = machine_after p q } in
      let x : ChannelSchedule = schedule_of d in
      let machine = moved_at m w.does in
      let taken : x.taken ≡ Some (q.channel.taken + 1) = taken_at r.transfer (q.channel.taken + 1) m.image d.channel machine in
      let before : RunningTransfer = now_at q.channel.taken in
      let now : RunningTransfer = now_at (q.channel.taken + 1) in
      let there_is : running_in ch c x.taken ≡ Some now = ap (running_in ch c) taken ∙ runs_front ch c r.transfer (q.channel.taken + 1) r.is in
      let runs_is : runs to (slice_set schedule ch x) ch ≡ Some now = runs_here_law to schedule ch x at.within ∙ ap (λ y. running_in ch y x.taken) w.leads.here
      ∙ there_is in
      let others : (e : ℕ) → e ≢ ch → runs old schedule e ≡ runs to (slice_set schedule ch x) e = grind (arith, runs_other) in
      let view_is = moved_view m.image m.flags history (ap (λ (y : ChanTurn × Shared). y.0) w.does) in
      let ranges = ranges_stay q.ranges before now refl (subst (AreOfRunning q.ranges) r.runs_is at.ranges) in
      rw w.does (holds_changed at d m.image m.flags history (p.steps + 1) to c (record {
        sound = subst IsSound (sym view_is) (stepped_sound (view_of p) ch _ at.holds.sound w.turn_is);
        leads = w.leads;
        shown = w.shown x (record { channels = sym w.leads.many; there = at.there; others = others }) runs_is;
        events = w.events;
        tied = record {
          submitted = submitted_kept history w.leads.grows t.submitted;
          outcomes = t.outcomes;
          issued = t.issued;
          halted = t.halted;
          machine = run_at r.transfer (q.channel.taken + 1) m.image d.channel c r.is machine;
        };
        prepared = subst (IsPrepared p.made) (sym there_is) (subst (IsPrepared p.made) r.runs_is (at.holds.prepared ch));
        ranges = subst (AreOfRunning q.ranges) (sym there_is) ranges;
        machines = w.machines;
      }))

  -- An instruction that stores nothing moves, and so does the step. Flags and history may change; the memory stays.
  pub record MovesBeside (flags : List Bool) (history : List Entry) (to : Object) (a b : Bool) : Type 0 where
    pub other : member r.transfer q.channel.taken ≢ St
    pub does : step_of_it r ≡ (Moved, record { image = p.memory; flags = flags })
    pub turn_is : turn (view_of p) ch ≡ next_moved (record (view_of p) { history = history }) ch q.channel.taken
    pub leads : LeadsTo p ch history to (with_flags (channel old ch) a b)
    pub events : flags ≡ to.events
    pub image : to.image ≡ old.image

  pub holds_beside : (flags : List Bool) (history : List Entry) (to : Object) (a b : Bool) → MovesBeside flags history to a b →
      Holds (moved_on p ch q (step_of_it r).1.image (step_of_it r).1.flags history)
  holds_beside flags history to a b w =
      let t = r.transfer in
      let same = (stored_is t r.rules).by_other q.channel.taken w.other in
      holds_moved (record { image = p.memory; flags = flags }) history to a b (record {
        does = w.does;
        turn_is = w.turn_is;
        leads = w.leads;
        events = w.events;
        shown = λ x d now. r.at.holds.shown ∙ shown_beside ch old to schedule (slice_set schedule ch x) d (now_at q.channel.taken)
            (now_at (q.channel.taken + 1)) w.image r.runs_is now (ap (λ k. (t, k)) (sym same));
        machines = λ k f l g m. m;
      })

-- ---- an instruction that adds an entry: a DMAWFE that passes, or a DMASEV

-- how the flags, and the front, are after it
pub record Added (p : Parts) (ch : ℕ) (q : Queue) (r : Runs p ch q) (e : Entry) : Type 0 where
  pub flags : List Bool
  pub passed : Bool
  pub signalled : Bool
  pub beside : MovesBeside r flags (p.history ++ e ∷ []) (after (object_in p) e) passed signalled

pub added : {p : Parts} {ch : ℕ} {q : Queue} {e : Entry} → (d : Due p ch q (Adds (view_of p) ch e)) → Added p ch q d.it e
added {p} {ch} {q} {e} d = by e d.holds where
  t : Descriptor
  t = d.it.transfer

  n : ℕ
  n = q.channel.taken

  c : ChannelState
  c = state_in p ch

  passes : (event : ℕ) (invalid : Bool) → member t n ≡ Wfe event invalid → slice_index_or p.events event false ≡ true → Added p ch q d.it (Passed ch event)
  passes event invalid is set = record {
    flags = slice_set p.events event false;
    passed = true;
    signalled = c.signalled;
    beside = record {
      other = λ f. let g = sym is ∙ f in absurd cc;
      does = rw (is, set) refl;
      turn_is = d.turn_is ∙ pass_turn (view_of p) ch n event t invalid is (ap (λ l. slice_index_or l event false) (sym d.it.at.holds.events) ∙ set);
      leads = leads_on p ch (Passed ch event) (with_flags c true c.signalled) d.it.at.there refl refl;
      events = ap (λ l. slice_set l event false) d.it.at.holds.events;
      image = refl;
    };
  }

  signals : (event : ℕ) → member t n ≡ Sev event → Added p ch q d.it (Signalled (Channel ch) event)
  signals event is = record {
    flags = slice_set p.events event true;
    passed = c.passed;
    signalled = true;
    beside = record {
      other = λ f. let g = sym is ∙ f in absurd cc;
      does = rw is refl;
      turn_is = d.turn_is ∙ signal_turn (view_of p) ch n event t is;
      leads = leads_on p ch (Signalled (Channel ch) event) (with_flags c c.passed true) d.it.at.there refl refl;
      events = ap (λ l. slice_set l event true) d.it.at.holds.events;
      image = refl;
    };
  }

  by : (e : Entry) → Adds (view_of p) ch e t n → Added p ch q d.it e
  by (Passed k event) a =
      let set = ap (λ l. slice_index_or l event false) d.it.at.holds.events ∙ a.2 in
      subst (λ i. Added p ch q d.it (Passed i event)) (sym a.0) (passes event a.1.0 a.1.1 set)
  by (Signalled (Channel k) event) a = subst (λ i. Added p ch q d.it (Signalled (Channel i) event)) (sym a.0) (signals event a.1)
  by e a = absurd a

pub added_starved : (p : Parts) → Holds p → (ch : ℕ) (e : Entry) → IsDue (view_of p) ch (Adds (view_of p) ch e) →
    CallAnswers (view_of p) (Step ch) (Refused NoMemory) (view_of p)
added_starved p h ch e asked =
    let d = (due_there p h ch (Adds (view_of p) ch e) asked).1 in
    step_starved (view_of p) ch _ e (added d).beside.turn_is refl

pub holds_added : {p : Parts} {ch : ℕ} {q : Queue} (e : Entry) (d : Due p ch q (Adds (view_of p) ch e)) →
    Holds (moved_on p ch q (step_of_it d.it).1.image (step_of_it d.it).1.flags (p.history ++ e ∷ []))
holds_added e d = let a = added d in holds_beside d.it a.flags _ _ a.passed a.signalled a.beside

pub added_answers : {p : Parts} {ch : ℕ} {q : Queue} (e : Entry) (d : Due p ch q (Adds (view_of p) ch e)) (memory : List ℕ) (flags : List Bool) →
    CallAnswers (view_of p) (Step ch) (Turned TurnMoved) (view_of (moved_on p ch q memory flags (p.history ++ e ∷ [])))
added_answers e d memory flags =
    let a = added d in
    moved_answers d.it memory flags _ (ap (λ (x : ChanTurn × Shared). x.0) a.beside.does) a.beside.turn_is

-- ---- a store

zip_keys : (ds bs : List ℕ) (a : ℕ) → Contains (keys_of (zip ds bs)) a → Contains ds a
zip_keys [] bs a h = absurd (omega (arith, h.1))
zip_keys (d ∷ ds) [] a h = absurd (omega (arith, h.1))
zip_keys (d ∷ ds) (b ∷ bs) a h = elim (Contains-append_cases (d ∷ []) (keys_of (zip ds bs)) a h) [
  | inl e ↦ Contains-append_left (d ∷ []) ds a e
  | inr e ↦ Contains-append_right (d ∷ []) ds a (zip_keys ds bs a e)
]

pub apart_running : (ss : List ℕ) (l : List (Descriptor × ℕ)) → All (λ r. Apart ss (destinations r.0)) l → Apart ss (keys_of (moves_of l))
apart_running ss [] all = λ a i j. absurd (omega (arith, j.1))
apart_running ss (r ∷ rs) all = λ a i j. elim (Contains-append_cases (keys_of (moves r.0 r.1)) (keys_of (moves_of rs)) a (rw map-append at j)) [
  | inl k ↦ All-head (λ r. Apart ss (destinations r.0)) r rs all a i (moves_writes r.0 r.1 a k)
  | inr k ↦ apart_running ss rs (All-tail (λ r. Apart ss (destinations r.0)) r rs all) a i k
]

-- At the sources of what runs, the memory has the bytes of the image: nothing that runs writes there.
sources_shown : {p : Parts} {ch : ℕ} {q : Queue} (r : Runs p ch q) (ss : List ℕ) → ((a : ℕ) → Contains ss a → Contains (sources r.transfer) a)
    → read_at p.memory ss ≡ map (slice_index (object_in p).image) ss
sources_shown {p} {ch} {q} r ss inside =
    let o = object_in p in
    let s = (view_of p).schedule in
    let t = r.transfer in
    let P : RunningTransfer → Type 0 = λ x. Apart ss (destinations x.transfer) in
    let now : RunningTransfer = now_at r q.channel.taken in
    let free = free_others o s ch now r.at.holds.sound.fits r.at.there r.runs_is in
    let each : (x : RunningTransfer) → IsFree t x.transfer → P x = λ x f a i j. f.reads_none a (inside a i) j in
    let own : P now = λ a i j. r.rules.apart a (inside a i) j in
    let low : All P (below o s ch) = All-weaker (λ x. IsFree t x.transfer) P each (below o s ch) free.0 in
    let high : All P (above o s ch) = All-weaker (λ x. IsFree t x.transfer) P each (above o s ch) free.1 in
    let list : running o s ≡ below o s ch ++ now ∷ above o s ch = running_split o s ch r.at.there
    ∙ ap (λ x. below o s ch ++ (option_to_list x ++ above o s ch)) r.runs_is in
    let all : All P (running o s) = rw list (All-append P (below o s ch) (now ∷ above o s ch) low (All-cons P now (above o s ch) own high)) in
    let apart = apart_running ss (map with_stored (running o s)) (All-map (λ y. Apart ss (destinations y.0)) with_stored (running o s) all) in
    ap (λ m. map (slice_index m) ss) r.at.holds.shown ∙ over_sources o.image (map with_stored (running o s)) ss apart

store_step : (p : Parts) (n : ℕ) (t : Descriptor) → member t n ≡ St → meets_mark Writing p.marks (written_places t n) ≡ false →
    let image = put p.memory (zip (written_places t n) (read_at p.memory (read_places t n))) in
    step_at t n p.marks (shared p) ≡ (Moved, record { image = image; flags = p.events })
store_step p n t is clear = rw (is, clear) refl

pub holds_stored : {p : Parts} {ch : ℕ} {q : Queue} → (d : Due p ch q GoesOn) → member d.it.transfer q.channel.taken ≡ St →
    meets_mark Writing p.marks (written_places d.it.transfer q.channel.taken) ≡ false → turn (view_of p) ch ≡ next_moved (view_of p) ch q.channel.taken →
    Holds (moved_on p ch q (step_of_it d.it).1.image (step_of_it d.it).1.flags p.history)
holds_stored {p} {ch} {q} d is clear turns =
    let o = object_in p in
    let s = (view_of p).schedule in
    let r = d.it in
    let h = r.at.holds in
    let t = r.transfer in
    let n = q.channel.taken in
    let reads = read_places t n in
    let writes = written_places t n in
    let bytes = read_at p.memory reads in
    let m : Shared = record { image = put p.memory (zip writes bytes); flags = p.events } in
    let now : RunningTransfer = now_at r n in
    let then : RunningTransfer = now_at r (n + 1) in
    let free = free_others o s ch now h.sound.fits r.at.there r.runs_is in
    let in_part : (k : ℕ) (l : List ℕ) (a : ℕ) → Contains (take (burst t n) (drop k l)) a → Contains l a =
    λ k l a i. Contains_drop k l a (Contains_take (burst t n) (drop k l) a i) in
    let from : bytes ≡ map (slice_index o.image) reads = sources_shown r reads (λ a i. in_part (stored_after t n) (sources t) a i) in
    let more : stored_after t (n + 1) ≡ stored_after t n + burst t n = (stored_is t r.rules).by_store n is in
    holds_moved r m p.history o (channel o ch).passed (channel o ch).signalled (record {
      does = store_step p n t is clear;
      turn_is = turns;
      leads = leads_still p ch;
      events = h.events;
      shown = λ x differs runs_then.
          ap (λ i. put i (zip writes bytes)) h.shown
          ∙ shown_stored ch o o s (slice_set s ch x) differs now then (burst t n) bytes refl r.runs_is runs_then (ap (λ j. (t, j)) more) r.rules free.0 from;
      machines = λ k f l g i.
          let e = slice_index_or p.queues k f in
          run_kept p.memory m.image e.channel (channel o k) (λ u loaded front_is a inside.
          let there : k < length o.channels = omega (arith, many_queues p h, l) in
          let runs_k = runs_at (holds_at p h k e l (get_or_default p.queues k f e l)) u loaded front_is in
          let both : AreFree (Some now) (runs o s k) = rw r.runs_is at (h.sound.fits.free ch k r.at.there there (λ z. g (sym z))) in
          let apart : is_free_of t u ≡ true = rw runs_k at both in
          get_or_put_other p.memory (zip writes bytes) a (λ z.
          (is_free_of_true t u apart).writes_no_source a (in_part (stored_after t n) (destinations t) a (zip_keys writes bytes a z)) inside)) i;
    })
