-- The front of a channel, by what the object knows of the channel and the instructions that it has executed.
use Rattle.std.proofs.Common.{◌≡◌, ◌≢◌, ℕ, ◌+◌, ◌-◌, ◌<◌, ◌≤◌, List, [], ◌∷◌, take, drop, Option, Some, None, Bool, true, false, ◌&&◌, ◌||◌, zero, suc, refl}
use Rattle.std.proofs.Common.{ap, sym, ◌∙◌, subst, arith}
use Rattle.std.specs.{Prelude.is_some, Prelude.nat_lt, Prelude.◌==◌, Prelude.IsSome, Prelude.MatchOption, List.list_any, Option.option_map_or}
use Rattle.std.proofs.lemmas.Bool.{cases_lt, eq-eqb, eqb-true, ne_eqb, lt-ltb, ltb-false, false≢true, true≢false, and_right}
use Rattle.dma_insn.specs.declared.chip.ChipInsn.TheVariants.{End, Sev, Wfe}
use Rattle.dma_mem.specs.Places.{Descriptor, sources, destinations, size_of, lies_below}
use Rattle.dma_mem.specs.{Marking.MarkList, Marking.meets_mark, declared.marks.MarkKind.MarkKind, declared.marks.MarkKind.TheVariants.Reading}
use Rattle.dma_mem.specs.{declared.marks.MarkKind.TheVariants.Writing, Rules.IsTransfer}
use Rattle.dma_chan.specs.{Compiled.cost, Traffic.member, Traffic.stored_after, Traffic.burst, Channel.ChannelValue, inner.At.IsAt}
use Rattle.dma_chan.proofs.ShapeLaws.{shape_is, stored_is}
use Rattle.dma_engine.specs.declared.outcome.TransResult.TheVariants.{NoError, ReadFailed, WriteFailed, Aborted}
use Rattle.dma_engine.specs.Object.{ChannelState, Allows, CanHaveStored, front, issued_front, finished}
use Rattle.dma_engine.specs.View.{View, RunningTransfer, Agrees, IsSound, channels, object_of, running_in, schedule_at, ChannelSchedule, size, state_at}
use Rattle.dma_engine.specs.{declared.entry.Entry.TheVariants.Finished, declared.outcome.TransResult.TransResult, declared.queue.Queue.Queue, Answer.done_on}
use Rattle.dma_engine.specs.{inner.Due.Finishes, inner.Holds.Parts, inner.Holds.view_of, inner.Holds.IsRun, declared.turn.Turn.TheVariants.Finished}
use Rattle.dma_engine.proofs.{Queues.HoldsAt, Queues.front_where, Queues.runs_at, Queues.runs_front, Queues.taken_some, TransferRules.ruled_front}
use Rattle.dma_engine.specs.inner.Holds.{state_in, runs_in}

-- how many bytes a running transfer has stored, or 0 if nothing runs
abbrev pub done_by : Option RunningTransfer → ℕ
done_by found = option_map_or (λ r. stored_after r.transfer r.taken) found 0

-- ---- truth values and marks

still_zero : (w : Bool) (n : ℕ) → w ≡ true → (w && nat_lt 0 n) ≡ false → n ≡ 0
still_zero w n h h2 = grind (arith, ltb-false)

at_last_law : (s : Bool) (n m : ℕ) → (s && n == m) ≡ true → n ≡ m
at_last_law s n m h = grind (arith, eqb-true)

either : (a b c : Bool) → (b ≡ true → c ≡ true) → (a || b) ≡ true → (a || c) ≡ true
either a b c h h2 = grind (arith)

any_longer : (p : ℕ → Bool) (xs : List ℕ) (b c : ℕ) → b ≤ c → list_any p (take b xs) ≡ true → list_any p (take c xs) ≡ true
any_longer p xs zero c l h = absurd (false≢true h)
any_longer p xs (suc b) zero l h = absurd (omega arith)
any_longer p [] (suc b) (suc c) l h = h
any_longer p (x ∷ xs) (suc b) (suc c) l h =
    let rest : list_any p (take b xs) ≡ true → list_any p (take c xs) ≡ true = any_longer p xs b c (omega arith) in
    either (p x) (list_any p (take b xs)) (list_any p (take c xs)) rest h

more_marked : (kind : MarkKind) (marks : MarkList) (xs : List ℕ) (b : ℕ) → b ≤ 256 → meets_mark kind marks (take b xs) ≡ true
    → meets_mark kind marks (take 256 xs) ≡ true
unfolding meets_mark
more_marked kind marks xs b small h = any_longer _ xs b 256 small h

-- ---- what is known of a front

-- a front that runs, and has executed this many instructions
pub record IsFront (c : ChannelState) (t : Descriptor) (n : ℕ) : Type 0 where
  pub is : front c ≡ Some t
  pub issued : issued_front c ≡ Some t
  pub goes : c.halted ≡ false
  pub within : n < cost t
  pub passed : c.passed ≡ (is_some t.wait && nat_lt 0 n)
  pub signalled : c.signalled ≡ (is_some t.signal && n == cost t - 1)
  pub rules : IsTransfer t

-- what runs on a channel of a sound view is such a front
pub record RunsAt (v : View) (ch n : ℕ) : Type 0 where
  pub transfer : Descriptor
  pub it : IsFront (state_at v ch) transfer n
  pub below : lies_below transfer (size v) ≡ true

pub runs_at_law : (v : View) (ch n : ℕ) → IsSound v → ch < channels v → (schedule_at v ch).taken ≡ Some n → RunsAt v ch n
runs_at_law v ch n h less taken =
    let c = state_at v ch in
    let agrees : Agrees c (Some n) = rw taken at (h.fits.each ch less) in
    let f = front_where c _ agrees.1 in
    let good = ruled_front v ch f.transfer h f.is in
    record {
      transfer = f.transfer;
      it = record { is = f.is; issued = f.issued; goes = agrees.0; within = f.holds.0; passed = f.holds.1; signalled = f.holds.2; rules = good.0 };
      below = good.1;
    }

-- what a queue whose program is loaded runs
pub record Runs (p : Parts) (ch : ℕ) (q : Queue) : Type 0 where
  pub at : HoldsAt p ch q
  pub transfer : Descriptor
  pub known : IsFront (state_in p ch) transfer q.channel.taken
  pub open known use *
  pub runs_is : runs_in p ch ≡ Some
      (record { ch = ch; cookie = finished (state_in p ch) + 1; transfer = transfer; taken = q.channel.taken })
  pub below : lies_below transfer (size (view_of p)) ≡ true
  pub machine : IsAt transfer q.channel.taken p.memory q.channel

machine_at : (memory : List ℕ) (m : ChannelValue) (c : ChannelState) (t : Descriptor) → is_some m.program ≡ true → front c ≡ Some t → IsRun memory m c
    → IsAt t m.taken memory m
machine_at memory m c t loaded is h = grind arith

pub running : {p : Parts} {ch : ℕ} {q : Queue} → HoldsAt p ch q → is_some q.channel.program ≡ true → Runs p ch q
running {p} {ch} {q} at loaded =
    let taken = ap (λ (s : ChannelSchedule). s.taken) at.schedule_is ∙ taken_some q.channel loaded in
    let f = runs_at_law (view_of p) ch q.channel.taken at.holds.sound at.there taken in
    record {
      at = at;
      transfer = f.transfer;
      known = f.it;
      runs_is = runs_at at f.transfer loaded f.it.is;
      below = f.below;
      machine = machine_at p.memory q.channel (state_in p ch) f.transfer loaded f.it.is at.tied.machine;
    }

-- ---- after one more instruction

-- it has passed if it waits
pub passed_next : (c : ChannelState) (t : Descriptor) (n : ℕ) → IsFront c t n → ((e : ℕ) (v : Bool) → member t n ≢ Wfe e v)
    → c.passed ≡ (is_some t.wait && nat_lt 0 (n + 1))
passed_next c t n f other = grind (arith, shape_is, lt-ltb)

pub has_passed : (c : ChannelState) (t : Descriptor) (n : ℕ) → IsFront c t n → ((e : ℕ) (v : Bool) → member t n ≢ Wfe e v) → IsSome t.wait → c.passed ≡ true
has_passed c t n f other waits = passed_next c t n f other ∙ ap (λ b. b && nat_lt 0 (n + 1)) waits ∙ lt-ltb 0 (n + 1) (omega arith)

-- it hasn't signalled where it doesn't signal now
pub signalled_next : (c : ChannelState) (t : Descriptor) (n : ℕ) → IsFront c t n → ((e : ℕ) → member t n ≢ Sev e) → n + 1 < cost t
    → c.signalled ≡ (is_some t.signal && n + 1 == cost t - 1)
signalled_next c t n f other next = grind (arith, shape_is, ne_eqb)

-- one is left where it doesn't end now
pub within_next : (c : ChannelState) (t : Descriptor) (n : ℕ) → IsFront c t n → member t n ≢ End → n + 1 < cost t
within_next c t n f other = grind (arith, cases_lt, shape_is)

-- it hasn't signalled before the end
pub not_signalled : (c : ChannelState) (t : Descriptor) (n : ℕ) → IsFront c t n → member t n ≢ End → c.signalled ≡ false
not_signalled c t n f other = grind (arith, ne_eqb, shape_is, and_right)

-- ---- its end

-- the result that the next instruction gives it may come
pub finish_may : (v : View) (ch n : ℕ) (t : Descriptor) (how : TransResult) → IsFront (state_at v ch) t n → Finishes v how t n
    → Allows (object_of v) (Finished ch how (stored_after t n))
finish_may v ch n t NoError f is =
    let c = state_at v ch in
    let last : n + 1 ≡ cost t = (shape_is t f.rules).end_only n f.within is in
    let at_last : n ≡ cost t - 1 = omega arith in
    let not_wfe : (k : ℕ) (i : Bool) → member t n ≢ Wfe k i = λ k i g. let e = sym is ∙ g in absurd cc in
    let signalled : IsSome t.signal → c.signalled ≡ true = λ w. f.signalled ∙ ap (λ b. b && n == cost t - 1) w ∙ eq-eqb n (cost t - 1) at_last in
    (f.goes, rw f.issued (has_passed c t n f not_wfe, signalled, ap (stored_after t) at_last ∙ (stored_is t f.rules).all))
finish_may v ch n t ReadFailed f is =
    let c = state_at v ch in
    let load = (stored_is t f.rules).load n is.0 in
    let not_wfe : (k : ℕ) (i : Bool) → member t n ≢ Wfe k i = λ k i g. let e = sym is.0 ∙ g in absurd cc in
    let not_end : member t n ≢ End = λ g. let e = sym is.0 ∙ g in absurd cc in
    let hit = more_marked Reading (object_of v).marks (drop (stored_after t n) (sources t)) (burst t n) load.1 is.1 in
    (f.goes, rw f.issued (has_passed c t n f not_wfe, not_signalled c t n f not_end, omega (arith, load.0, load.2), hit))
finish_may v ch n t WriteFailed f is =
    let c = state_at v ch in
    let store = (stored_is t f.rules).store n is.0 in
    let not_wfe : (k : ℕ) (i : Bool) → member t n ≢ Wfe k i = λ k i g. let e = sym is.0 ∙ g in absurd cc in
    let not_end : member t n ≢ End = λ g. let e = sym is.0 ∙ g in absurd cc in
    let hit = more_marked Writing (object_of v).marks (drop (stored_after t n) (destinations t)) (burst t n) store.1 is.1 in
    (f.goes, rw f.issued (has_passed c t n f not_wfe, not_signalled c t n f not_end, omega (arith, store.0, store.2), hit))
finish_may v ch n t Aborted f is = absurd is

-- this many bytes may be stored when it is terminated
pub stored_may : (c : ChannelState) (t : Descriptor) (n : ℕ) → IsFront c t n → CanHaveStored c (stored_after t n)
stored_may c t n f =
    let stores = stored_is t f.rules in
    let none : IsSome t.wait → c.passed ≡ false → stored_after t n ≡ 0 = λ w e.
    let zero : n ≡ 0 = still_zero (is_some t.wait) n w (sym f.passed ∙ e) in ap (stored_after t) zero ∙ stores.none in
    let whole : c.signalled ≡ true → stored_after t n ≡ size_of t = λ e.
    let last : n ≡ cost t - 1 = at_last_law (is_some t.signal) n (cost t - 1) (sym f.signalled ∙ e) in ap (stored_after t) last ∙ stores.all in
    rw f.issued (stores.at_most n, λ e. absurd (true≢false (sym e ∙ f.goes)), none, whole)

-- if nothing runs, nothing is stored
abbrev Fitting : ChannelState → ℕ → Option Descriptor → Type 0
Fitting c done o =
    MatchOption o (done ≡ 0) (λ t.
    (done ≤ size_of t) × (c.halted ≡ true → done ≡ 0) × (IsSome t.wait → c.passed ≡ false → done ≡ 0) × (c.signalled ≡ true → done ≡ size_of t))

nothing_stored : (c : ChannelState) → c.signalled ≡ false → CanHaveStored c 0
nothing_stored c h = grind arith

-- how many bytes of the front are stored when its channel is terminated
pub stored_there : (v : View) (ch : ℕ) → IsSound v → ch < channels v → CanHaveStored (state_at v ch) (done_on v ch)
stored_there v ch h less = by _ refl where
  c : ChannelState
  c = state_at v ch

  by : (x : Option ℕ) → (schedule_at v ch).taken ≡ x → CanHaveStored c (done_on v ch)
  by None e =
      let agrees : Agrees c None = rw e at (h.fits.each ch less) in
      let none : done_on v ch ≡ 0 = ap (λ x. done_by (running_in ch c x)) e in
      subst (CanHaveStored c) (sym none) (nothing_stored c agrees.1)
  by (Some n) e =
      let r = runs_at_law v ch n h less e in
      let some : done_on v ch ≡ stored_after r.transfer n = ap (λ x. done_by (running_in ch c x)) e ∙ ap done_by (runs_front ch c r.transfer n r.it.is) in
      subst (CanHaveStored c) (sym some) (stored_may c r.transfer n r.it)

-- ---- whether a front has signalled

and_true : (b : Bool) → (b && true) ≡ b
and_true b = grind (arith)

pub signalled_end : {p : Parts} {ch : ℕ} {q : Queue} → (r : Runs p ch q) → member r.transfer q.channel.taken ≡ End
    → (state_in p ch).signalled ≡ is_some r.transfer.signal
signalled_end {p} {ch} {q} r is = grind (arith, shape_is, eq-eqb, and_true)
