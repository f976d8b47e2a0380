-- What a step of one channel changes for the others: nothing of their states, no flag that it doesn't signal, and it
-- adds no cookie that would signal.
use Rattle.std.proofs.Common.{◌≡◌, ◌≢◌, ℕ, ◌+◌, ◌<◌, List, [], ◌∷◌, ◌++◌, length, Some, Bool, true, false, refl, ap, sym, ◌∙◌, subst, arith, inl, inr, ◌⊎◌}
use Rattle.std.proofs.Common.{length-append}
use Rattle.std.specs.Prelude.{slice_index_or, slice_set}
use Rattle.std.proofs.lemmas.Bool.{and_parts, and_right, cases_eq, cases_lt, eq-eqb, lt-leb, ne_eqb, not-true, or_parts}
use Rattle.std.proofs.lemmas.List.{get_or-set_other, get_or-set_same, get_or_past, length-set}
use Rattle.dma_mem.specs.Places.{Descriptor}
use Rattle.dma_engine.specs.declared.entry.Entry.TheVariants.{Finished, Passed, Signalled}
use Rattle.dma_engine.specs.Object.{Allows, ChannelState, Object, after, channel, finished, front, is_set, used, with_outcome}
use Rattle.dma_engine.specs.View.{ChannelSchedule, IsSound, View, idle, object_of, schedule_at}
use Rattle.dma_engine.specs.{declared.entry.Entry.Entry, declared.entry.Signaller.TheVariants.Channel, declared.outcome.TransResult.TransResult}
use Rattle.dma_engine.specs.{History.IsLegal, History.object_after, Turn.Stepped, Turn.turn}
use Rattle.dma_engine.proofs.{Histories.object_after_append, Queues.front_where, StaysSound.stepped_sound, Turns.turn_cases}
use Rattle.dma_why.proofs.ViewWaits.{WouldBy}

-- ---- what a step leaves

-- of the object
pub record Leaves (o p : Object) (ch : ℕ) : Type 0 where
  pub many : length p.channels ≡ length o.channels
  pub others : (d : ℕ) → d ≢ ch → channel p d ≡ channel o d
  pub fewer : (event number : ℕ) → WouldBy (channel p ch) event number → WouldBy (channel o ch) event number
  pub clear : (event : ℕ) → is_set o event ≡ false → (is_set p event ≡ false) ⊎ ((number : ℕ) × WouldBy (channel o ch) event number)

-- and of the schedule
pub record LeavesView (v w : View) (ch : ℕ) : Type 0 where
  pub object : Leaves (object_of v) (object_of w) ch
  pub schedules : (d : ℕ) → d ≢ ch → schedule_at w d ≡ schedule_at v d

-- ---- the entries of steps

-- a channel that has signalled or finished
would_signalled : (c : ChannelState) (event number : ℕ) → c.signalled ≡ false → WouldBy (record c { signalled = true }) event number → WouldBy c event number
would_signalled c event number not_yet h = grind (arith, and_parts, or_parts, not-true)

would_finished : (c : ChannelState) (how : TransResult) (done event number : ℕ) → c.halted ≡ false → WouldBy (with_outcome c how done) event number
    → WouldBy c event number
would_finished c how done event number goes h = grind (arith, length-append, and_parts, ne_eqb, and_right)

-- a front that signals an event would signal it
front_would : (c : ChannelState) (event : ℕ) (t : Descriptor) → c.halted ≡ false → c.signalled ≡ false → front c ≡ Some t → finished c < used c
    → t.signal ≡ Some event → WouldBy c event (finished c + 1)
front_would c event t goes not_yet is within signals_it = grind (arith, lt-leb, eq-eqb)

flag_cleared : (events : List Bool) (event e : ℕ) → slice_index_or events e false ≡ false → slice_index_or (slice_set events event false) e false ≡ false
flag_cleared events event e clear = grind (arith, cases_eq, get_or-set_other, cases_lt, get_or-set_same, get_or_past, length-set)

-- one channel has another state
leaves_set : (o p : Object) (ch : ℕ) (d : ChannelState) → p.channels ≡ slice_set o.channels ch d → ch < length o.channels
    → ((event number : ℕ) → WouldBy d event number → WouldBy (channel o ch) event number)
    → ((event : ℕ) → is_set o event ≡ false → (is_set p event ≡ false) ⊎ ((number : ℕ) × WouldBy (channel o ch) event number)) → Leaves o p ch
leaves_set o p ch d is less fewer clear = grind (arith, length-set, get_or-set_other, get_or-set_same)

leaves_passed : (o : Object) (ch event : ℕ) → ch < length o.channels → Leaves o (after o (Passed ch event)) ch
leaves_passed o ch event less =
    leaves_set o _ ch (record (channel o ch) { passed = true }) refl less (λ e n h. h) (λ e clear. inl (flag_cleared o.events event e clear))

leaves_signalled : (o : Object) (ch event : ℕ) → ch < length o.channels → Allows o (Signalled (Channel ch) event)
    → Leaves o (after o (Signalled (Channel ch) event)) ch
leaves_signalled o ch event less may =
    let c = channel o ch in
    let f = front_where c _ may.1 in
    leaves_set o _ ch (record c { signalled = true }) refl less (λ e n. would_signalled c e n f.holds.2) (λ e clear. elim (cases_eq e event) [
      | inr other ↦ inl (get_or-set_other o.events event e true false other ∙ clear)
      | inl same ↦ inr (finished c + 1, front_would c e f.transfer may.0 f.holds.2 f.is f.within (f.holds.1 ∙ ap (λ k. Some k) (sym same)))
    ])

leaves_finished : (o : Object) (ch : ℕ) (how : TransResult) (done : ℕ) → ch < length o.channels → (channel o ch).halted ≡ false
    → Leaves o (after o (Finished ch how done)) ch
leaves_finished o ch how done less goes =
    let c = channel o ch in
    leaves_set o _ ch (with_outcome c how done) refl less (λ e n. would_finished c how done e n goes) (λ e clear. inl clear)

-- ---- a step

leaves_all : (o : Object) (ch : ℕ) → Leaves o o ch
leaves_all o ch = record { many = refl; others = λ d g. refl; fewer = λ e n h. h; clear = λ e clear. inl clear }

leaves_scheduled : (v : View) (ch : ℕ) (x : ChannelSchedule) (history : List Entry) (steps : ℕ) → Leaves (object_of v) (object_after v.base history) ch
    → LeavesView v (record { base = v.base; history = history; steps = steps; schedule = slice_set v.schedule ch x }) ch
leaves_scheduled v ch x history steps l = record { object = l; schedules = λ d g. get_or-set_other v.schedule ch d x idle g }

-- the last entry of a legal history is allowed
last_allowed : (o : Object) (h : List Entry) (e : Entry) → IsLegal o (h ++ e ∷ []) → Allows (object_after o h) e
last_allowed o [] e l = l.0
last_allowed o (x ∷ xs) e l = last_allowed (after o x) xs e l.1

leaves_entered : (v : View) (ch : ℕ) (x : ChannelSchedule) (e : Entry) (steps : ℕ) → Leaves (object_of v) (after (object_of v) e) ch
    → LeavesView v (record { base = v.base; history = v.history ++ e ∷ []; steps = steps; schedule = slice_set v.schedule ch x }) ch
leaves_entered v ch x e steps l =
    leaves_scheduled v ch x (v.history ++ e ∷ []) steps (subst (λ p. Leaves (object_of v) p ch) (sym (object_after_append v.base v.history (e ∷ []))) l)

may_finish : (o : Object) (ch : ℕ) (how : TransResult) (done : ℕ) → Allows o (Finished ch how done) → (channel o ch).halted ≡ false
may_finish o ch how done h = grind (arith)

abbrev LeavesStep : View → ℕ → Stepped → Type 0
LeavesStep v ch s = IsSound s.1 → LeavesView v s.1 ch

pub step_leaves : (v : View) (ch : ℕ) → IsSound v → LeavesView v (turn v ch).1 ch
step_leaves v ch sound =
    let o = object_of v in
    let still : IsSound v → LeavesView v v ch = λ _. record { object = leaves_all o ch; schedules = λ d g. refl } in
    turn_cases v ch (LeavesStep v ch) (record {
      idle = (still, still, still, still, still, λ r. still, λ e. still);
      starts = λ less none s. leaves_scheduled v ch _ v.history v.steps (leaves_all o ch);
      moves = λ less n s. leaves_scheduled v ch _ v.history (v.steps + 1) (leaves_all o ch);
      passes = λ less n event s. leaves_entered v ch _ (Passed ch event) (v.steps + 1) (leaves_passed o ch event less);
      signals = λ less n event s. leaves_entered v ch _ (Signalled (Channel ch) event) (v.steps + 1)
          (leaves_signalled o ch event less (last_allowed v.base v.history _ s.legal));
      ends = λ less n t how s. leaves_entered v ch _ (Finished ch how _) (v.steps + 1)
          (leaves_finished o ch how _ less (may_finish o ch how _ (last_allowed v.base v.history _ s.legal)));
    }) (stepped_sound v ch (turn v ch) sound refl)
