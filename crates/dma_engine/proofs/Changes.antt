-- What an engine keeps when an entry is added, or one channel changes.
use Rattle.std.proofs.Common.{◌≡◌, ◌≢◌, ℕ, ◌<◌, false, List, [], ◌∷◌, ◌++◌, length, Option, Some, None, Bool, true, refl, ap, sym, ◌∙◌, subst, arith, inl}
use Rattle.std.proofs.Common.{inr}
use Rattle.std.specs.Prelude.{slice_get, slice_index, slice_index_or, slice_set, is_some, IsSomeAnd}
use Rattle.std.specs.{List.Contains}
use Rattle.std.proofs.lemmas.Bool.{cases_eq}
use Rattle.std.proofs.lemmas.List.{map-set, set-get_or, length-set, get_or-set_same, get_or-set_other}
use Rattle.dma_mem.specs.{Places.Descriptor, Places.is_free_of, Places.sources, Meeting.IsFree, Marking.MarkList}
use Rattle.dma_mem.proofs.{SharedPlaces.share_none, SharedPlaces.is_free_of_true, OverTransfers.IsFree_sym}
use Rattle.dma_chan.specs.{Channel.ChannelValue, inner.At.IsAt}
use Rattle.dma_chan.proofs.LayerLaws.{survives}
use Rattle.dma_engine.specs.Object.{Object, ChannelState, channel, after, front}
use Rattle.dma_engine.specs.View.{View, ChannelSchedule, RunningTransfer, Fits, Agrees, AreFree, IsSound, running_in, runs, idle, object_of, memory_of}
use Rattle.dma_engine.specs.View.{memory_shown}
use Rattle.dma_engine.specs.inner.Holds.{HasSubmitted, Holds, IsPrepared, IsQueue, IsRun, Parts, view_of, schedule_of, taken_of, object_in, state_in}
use Rattle.dma_engine.specs.{declared.entry.Entry.Entry, declared.queue.Queue.Queue, History.object_after, Turn.with_entry, inner.Ranges.AreOfRunning}
use Rattle.dma_engine.proofs.{Histories.object_after_append, Queues.HoldsAt, Queues.slice_get_push}

-- ---- transfers that are free of each other

pub free_true : (t u : Descriptor) → IsFree t u → is_free_of t u ≡ true
free_true t u h = grind (arith, share_none)

pub AreFree_sym : (x y : Option RunningTransfer) → AreFree x y → AreFree y x
AreFree_sym None None h = tt
AreFree_sym None (Some s) h = tt
AreFree_sym (Some r) None h = tt
AreFree_sym (Some r) (Some s) h = free_true s.transfer r.transfer (IsFree_sym r.transfer s.transfer (is_free_of_true r.transfer s.transfer h))

-- ---- what a machine runs, and a queue, when something else changes

-- A machine runs the front of another state, over another memory, if it does so for each front that it may run now.
pub run_moved : (memory other : List ℕ) (m : ChannelValue) (c d : ChannelState)
    → ((t : Descriptor) → is_some m.program ≡ true → front c ≡ Some t → IsAt t m.taken memory m → IsSomeAnd (front d) (λ u. IsAt u m.taken other m))
    → IsRun memory m c → IsRun other m d
run_moved memory other m c d moved h = grind arith

-- It runs on over another memory if this one has the same bytes at the sources of the front.
pub run_kept : (memory other : List ℕ) (m : ChannelValue) (c : ChannelState)
    → ((t : Descriptor) → is_some m.program ≡ true → front c ≡ Some t → (a : ℕ) → Contains (sources t) a → slice_index other a ≡ slice_index memory a)
    → IsRun memory m c → IsRun other m c
run_kept memory other m c same = run_moved memory other m c c (λ t loaded is at. rw is (survives t m.taken memory other m at (same t loaded is)))

-- A machine without a program runs nothing.
pub run_none : (memory : List ℕ) (m : ChannelValue) (c : ChannelState) → taken_of m ≡ None → IsRun memory m c
run_none memory m c none = grind arith

-- A queue still matches its channel when entries are added to the history: for its cookies, and for all of it.
pub submitted_kept : {ch : ℕ} {kept : List Descriptor} {history : List Entry} {lost number : ℕ} {indices : List ℕ} {before : ℕ} {submitted : List Descriptor}
    (longer : List Entry) → ((k : ℕ) (e : Entry) → slice_get history k ≡ Some e → slice_get longer k ≡ Some e)
    → HasSubmitted ch kept history lost number indices before submitted → HasSubmitted ch kept longer lost number indices before submitted
submitted_kept longer grows h =
    record { forgotten = h.forgotten; given = h.given; many = h.many; first = h.first; indexed = λ k less. let s = h.indexed k less in (s.0, grows _ _ s.1) }

pub queue_kept : {ch : ℕ} {kept : List Descriptor} {history : List Entry} {memory : List ℕ} {q : Queue} {c : ChannelState} (longer : List Entry)
    (other : List ℕ) → ((k : ℕ) (e : Entry) → slice_get history k ≡ Some e → slice_get longer k ≡ Some e) → IsRun other q.channel c
    → IsQueue ch kept history memory q c → IsQueue ch kept longer other q c
queue_kept longer other grows machine h =
    record { submitted = submitted_kept longer grows h.submitted; outcomes = h.outcomes; issued = h.issued; halted = h.halted; machine = machine }

-- ---- an entry that changes no channel

-- Whether a schedule fits an object depends on the channels of the object alone.
pub fits_channels : (o p : Object) (s : List ChannelSchedule) → o.channels ≡ p.channels → Fits o s → Fits p s
fits_channels o p s e h = grind arith

-- the parts with one more entry
abbrev pub with_entry_at : Parts → Entry → List ℕ → List Bool → MarkList → Parts
with_entry_at p e memory events marks = record p { memory = memory; events = events; marks = marks; history = p.history ++ e ∷ [] }

pub record EntersWith (p : Parts) (e : Entry) (memory : List ℕ) (flags : List Bool) (marked : MarkList) : Type 0 where
  pub sound : IsSound (with_entry (view_of p) e)
  pub stay : (after (object_in p) e).channels ≡ (object_in p).channels
  pub shown : memory ≡ memory_shown (after (object_in p) e) (view_of p).schedule
  pub events : flags ≡ (after (object_in p) e).events
  pub marks : marked ≡ (after (object_in p) e).marks
  pub machines : (ch : ℕ) (d : Queue) → ch < length p.queues →
      IsRun p.memory (slice_index_or p.queues ch d).channel (state_in p ch) →
      IsRun memory (slice_index_or p.queues ch d).channel (state_in p ch)

pub holds_entered : (p : Parts) (e : Entry) (memory : List ℕ) (events : List Bool) (marks : MarkList) → Holds p → EntersWith p e memory events marks
    → Holds (with_entry_at p e memory events marks)
holds_entered p e memory events marks h w =
    let v : View = view_of p in
    let u : View = view_of (with_entry_at p e memory events marks) in
    let o = object_of v in
    let step : object_of u ≡ after o e = object_after_append v.base p.history (e ∷ []) in
    let channels = ap (λ (x : Object). x.channels) step ∙ w.stay in
    let same : (ch : ℕ) → runs (object_of u) u.schedule ch ≡ runs o v.schedule ch = grind (arith) in
    record {
      sound = w.sound;
      shown = rw step w.shown;
      events = rw step w.events;
      marks = rw step w.marks;
      size = h.size;
      each = λ ch d less.
          let kept = queue_kept (p.history ++ e ∷ []) memory (λ k x. slice_get_push p.history e x k) (w.machines ch d less (h.each ch d less).machine)
          (h.each ch d less) in
          rw (step, w.stay) kept;
      prepared = λ ch. subst (IsPrepared p.made) (sym (same ch)) (h.prepared ch);
      ranges = λ ch d less. subst (AreOfRunning (slice_index_or p.queues ch d).ranges) (sym (same ch)) (h.ranges ch d less);
    }

-- ---- pages

-- The destinations of what runs lie on made pages, also after more pages are made.
pub prepared_more : (made more : List Bool) (x : Option RunningTransfer)
    → ((page : ℕ) → slice_index_or made page false ≡ true → slice_index_or more page false ≡ true) → IsPrepared made x → IsPrepared more x
prepared_more made more x h h2 = grind (arith)

-- Making pages changes nothing else.
pub holds_pages : (p : Parts) (more : List Bool) → Holds p → ((page : ℕ) → slice_index_or p.made page false ≡ true → slice_index_or more page false ≡ true)
    → Holds (record p { made = more })
holds_pages p more h keeps = grind (arith, prepared_more)

-- ---- one channel changes

pub runs_here_law : (o : Object) (s : List ChannelSchedule) (ch : ℕ) (x : ChannelSchedule) → ch < length s
    → runs o (slice_set s ch x) ch ≡ running_in ch (channel o ch) x.taken
runs_here_law o s ch x less = ap (λ (y : ChannelSchedule). running_in ch (channel o ch) y.taken) (get_or-set_same s ch x idle less)

pub runs_other : (o p : Object) (s : List ChannelSchedule) (ch c : ℕ) (x : ChannelSchedule) → c ≢ ch → channel p c ≡ channel o c
    → runs p (slice_set s ch x) c ≡ runs o s c
runs_other o p s ch c x differs same = grind (arith, get_or-set_other)

-- The channels of p are those of o but for this one, whose state is `state`.
pub record Sets (o p : Object) (ch : ℕ) (state : ChannelState) : Type 0 where
  pub many : length p.channels ≡ length o.channels
  pub here : channel p ch ≡ state
  pub others : (c : ℕ) → c ≢ ch → channel p c ≡ channel o c

pub sets : (o p : Object) (ch : ℕ) (state : ChannelState) → ch < length o.channels → p.channels ≡ slice_set o.channels ch state → Sets o p ch state
sets o p ch state there is = grind (arith, length-set, get_or-set_same, get_or-set_other)

-- An object and a schedule still fit each other if a channel has this state and this schedule.
pub record FitsStill (o : Object) (s : List ChannelSchedule) (ch : ℕ) (state : ChannelState) (x : ChannelSchedule) : Type 0 where
  pub there : ch < length o.channels
  pub agrees : Agrees state x.taken
  pub free : (d : ℕ) → d < length o.channels → d ≢ ch → AreFree (running_in ch state x.taken) (runs o s d)

pub fits_changed : (o p : Object) (s : List ChannelSchedule) (ch : ℕ) (state : ChannelState) (x : ChannelSchedule) →
    Fits o s → p.channels ≡ slice_set o.channels ch state → FitsStill o s ch state x → Fits p (slice_set s ch x)
fits_changed o p s ch state x h is w =
    let to = sets o p ch state w.there is in
    let less : ch < length s = omega (arith, h.many, w.there) in
    let here = runs_here_law p s ch x less ∙ ap (λ c. running_in ch c x.taken) to.here in
    let other : (c : ℕ) → c ≢ ch → runs p (slice_set s ch x) c ≡ runs o s c = λ c d. runs_other o p s ch c x d (to.others c d) in
    record {
      many = length-set s ch x ∙ h.many ∙ sym to.many;
      each = λ c l. elim (cases_eq c ch) [
        | inl e ↦ rw (e, to.here, get_or-set_same s ch x idle less) w.agrees
        | inr d ↦ rw (to.others c d, get_or-set_other s ch c x idle d) (h.each c (omega (arith, to.many, l)))
      ];
      free = λ c d i j k. elim (cases_eq c ch) [
        | inl e ↦ elim (cases_eq d ch) [
          | inl f ↦ absurd (k (e ∙ sym f))
          | inr g ↦ rw (e, here, other d g) (w.free d (omega (arith, to.many, j)) g)
        ]
        | inr f ↦ elim (cases_eq d ch) [
          | inl e ↦ rw (e, here, other c f) (AreFree_sym _ _ (w.free c (omega (arith, to.many, i)) f))
          | inr g ↦ rw (other c f, other d g) (h.free c d (omega (arith, to.many, i)) (omega (arith, to.many, j)) k)
        ]
      ];
    }

-- the parts after a change of one queue
abbrev pub changed : Parts → ℕ → Queue → List ℕ → List Bool → List Entry → ℕ → Parts
changed p ch q memory events history steps =
    record {
      size = p.size;
      memory = memory;
      made = p.made;
      events = events;
      marks = p.marks;
      queues = slice_set p.queues ch q;
      base = p.base;
      history =
          history;
      steps = steps;
    }

-- their view
abbrev pub changed_view : Parts → ℕ → Queue → List Entry → ℕ → View
changed_view p ch q history steps =
    record { base = (view_of p).base; history = history; steps = steps; schedule = slice_set (view_of p).schedule ch (schedule_of q) }

pub view_changed : (p : Parts) (ch : ℕ) (q : Queue) (memory : List ℕ) (events : List Bool) (history : List Entry) (steps : ℕ)
    → view_of (changed p ch q memory events history steps) ≡ changed_view p ch q history steps
view_changed p ch q memory events history steps = grind (arith, map-set)

-- The history begins with that of the view and leads to the object o.
pub record GoesTo (v : View) (history : List Entry) (o : Object) : Type 0 where
  pub becomes : object_after v.base history ≡ o
  pub grows : (k : ℕ) (e : Entry) → slice_get v.history k ≡ Some e → slice_get history k ≡ Some e

-- So does the present one, and with one more entry one that leads to the object after it.
pub goes_still : (v : View) → GoesTo v v.history (object_of v)
goes_still v = record { becomes = refl; grows = λ k e is. is }

pub goes_more : {v : View} {history : List Entry} {o w : Object} (e : Entry) → GoesTo v history o → after o e ≡ w → GoesTo v (history ++ e ∷ []) w
goes_more {v} {history} e h is = grind (arith, object_after_append, slice_get_push)

-- Only this channel may differ in the object o, and its state is then `state`.
pub record LeadsTo (p : Parts) (ch : ℕ) (history : List Entry) (o : Object) (state : ChannelState) : Type 0 where
  pub goes : GoesTo (view_of p) history o
  pub open goes use *
  pub marks : (object_in p).marks ≡ o.marks
  pub sets : Sets (object_in p) o ch state
  pub open sets use *

pub leads_still : (p : Parts) (ch : ℕ) → LeadsTo p ch p.history (object_in p) (state_in p ch)
leads_still p ch = record { goes = goes_still (view_of p); marks = refl; sets = record { many = refl; here = refl; others = λ c f. refl } }

pub leads_on : (p : Parts) (ch : ℕ) (e : Entry) (state : ChannelState) → let o = object_in p in ch < length o.channels →
    o.marks ≡ (after o e).marks → (after o e).channels ≡ slice_set o.channels ch state → LeadsTo p ch (p.history ++ e ∷ []) (after o e) state
leads_on p ch e state there marks is = record {
  goes = goes_more e (goes_still (view_of p)) refl;
  marks = marks;
  sets = sets (object_in p) (after (object_in p) e) ch state there is;
}

-- What must hold after a change at one channel, so that the engine keeps what it keeps (`Holds`).
pub record ChangesTo (p : Parts) (ch : ℕ) (q : Queue) (memory : List ℕ) (flags : List Bool) (history : List Entry) (steps : ℕ) (o : Object)
    (state : ChannelState) : Type 0 where
  pub sound : IsSound (view_of (changed p ch q memory flags history steps))
  pub leads : LeadsTo p ch history o state
  pub shown : memory ≡ memory_shown o (slice_set (view_of p).schedule ch (schedule_of q))
  pub events : flags ≡ o.events
  pub tied : IsQueue ch (channel p.base ch).submitted history memory q state
  pub prepared : IsPrepared p.made (running_in ch state (schedule_of q).taken)
  pub ranges : AreOfRunning q.ranges (running_in ch state (schedule_of q).taken)
  pub machines : (c : ℕ) (d : Queue) → c < length p.queues → c ≢ ch →
      IsRun p.memory (slice_index_or p.queues c d).channel (state_in p c) →
      IsRun memory (slice_index_or p.queues c d).channel (state_in p c)

pub holds_changed : {p : Parts} {ch : ℕ} {old : Queue} → HoldsAt p ch old
    → (q : Queue) (memory : List ℕ) (events : List Bool) (history : List Entry) (steps : ℕ) (o : Object) (state : ChannelState)
    → ChangesTo p ch q memory events history steps o state → Holds (changed p ch q memory events history steps)
holds_changed {p} {ch} at q memory events history steps o state w =
    let h = at.holds in
    let less = at.less in
    let v : View = view_of p in
    let to = w.leads in
    let r = changed p ch q memory events history steps in
    let u : View = changed_view p ch q history steps in
    let is : u ≡ view_of r = sym (view_changed p ch q memory events history steps) in
    let x : ChannelSchedule = schedule_of q in
    let runs_new : ℕ → Option RunningTransfer = runs (object_of (view_of r)) (view_of r).schedule in
    let new : (c : ℕ) → runs_new c ≡ runs o (slice_set v.schedule ch x) c = λ c. ap (λ (y : View). runs (object_of y) y.schedule c) (sym is)
    ∙ ap (λ (y : Object). runs y (slice_set v.schedule ch x) c) to.becomes in
    let here : (c : ℕ) → c ≡ ch → runs_new c ≡ running_in ch state x.taken = λ c e. new c ∙ ap (runs o (slice_set v.schedule ch x)) e
    ∙ runs_here_law o v.schedule ch x at.within ∙ ap (λ y. running_in ch y x.taken) to.here in
    let elsewhere : (c : ℕ) → c ≢ ch → runs_new c ≡ runs (object_of v) v.schedule c = λ c f. new c
    ∙ runs_other (object_of v) o v.schedule ch c x f (to.others c f) in
    record {
      sound = w.sound;
      shown = w.shown ∙ ap (λ x. memory_shown x (slice_set v.schedule ch (schedule_of q))) (sym to.becomes) ∙ ap memory_of is;
      events = w.events ∙ ap (λ (x : Object). x.events) (sym to.becomes);
      marks = h.marks ∙ to.marks ∙ ap (λ (x : Object). x.marks) (sym to.becomes);
      size = h.size;
      each = λ c d l. elim (cases_eq c ch) [
        | inl e ↦ rw (e, to.becomes, get_or-set_same p.queues ch q d less, to.here) w.tied
        | inr f ↦
            let l' : c < length p.queues = omega (arith, l, length-set p.queues ch q) in
            let old = h.each c d l' in
            let kept = queue_kept history memory to.grows (w.machines c d l' f old.machine) old in
            rw (to.becomes, get_or-set_other p.queues ch c q d f, to.others c f) kept
      ];
      prepared = λ c. elim (cases_eq c ch) [
        | inl e ↦ subst (IsPrepared p.made) (sym (here c e)) w.prepared
        | inr f ↦ subst (IsPrepared p.made) (sym (elsewhere c f)) (h.prepared c)
      ];
      ranges = λ c d l. elim (cases_eq c ch) [
        | inl e ↦
            let slot : slice_index_or (slice_set p.queues ch q) c d ≡ q = ap (λ k. slice_index_or (slice_set p.queues ch q) k d) e
            ∙ get_or-set_same p.queues ch q d less in
            subst (λ (y : Queue). AreOfRunning y.ranges (runs_new c)) (sym slot) (subst (AreOfRunning q.ranges) (sym (here c e)) w.ranges)
        | inr f ↦
            let slot : slice_index_or (slice_set p.queues ch q) c d ≡ slice_index_or p.queues c d = get_or-set_other p.queues ch c q d f in
            let l' : c < length p.queues = omega (arith, l, length-set p.queues ch q) in
            subst (λ (y : Queue). AreOfRunning y.ranges (runs_new c)) (sym slot)
            (subst (AreOfRunning (slice_index_or p.queues c d).ranges) (sym (elsewhere c f)) (h.ranges c d l'))
      ];
    }

-- The schedule stays the same if that of the changed queue does.
pub schedule_kept : {p : Parts} {ch : ℕ} {q : Queue} → HoldsAt p ch q → (r : Queue) → schedule_of r ≡ schedule_of q
    → slice_set (view_of p).schedule ch (schedule_of r) ≡ (view_of p).schedule
schedule_kept {p} {ch} {q} at r same = ap (slice_set (view_of p).schedule ch) (same ∙ sym at.schedule_is) ∙ set-get_or (view_of p).schedule ch idle
