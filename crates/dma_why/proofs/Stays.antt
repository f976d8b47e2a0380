-- No step moves a channel of a circle.
use Rattle.std.proofs.Common.{arith}
use Rattle.std.proofs.Common.{◌≡◌, ◌≢◌, ℕ, ◌<◌, List, [], ◌∷◌, length, map, Option, Some, None, Bool, true, false, refl, ap, sym, ◌∙◌, subst, inl, inr, ◌⊎◌}
use Rattle.std.specs.{Prelude.◌==◌, Prelude.find, Prelude.nat_le, List.Contains}
use Rattle.std.proofs.lemmas.Bool.{cases_eq, cases_lt, cond_both, eqb-false, eqb-true, le-leb, lt-leb}
use Rattle.std.proofs.lemmas.List.Elements.{All-contains}
use Rattle.dma_insn.specs.declared.chip.ChipInsn.TheVariants.{Wfe}
use Rattle.dma_mem.specs.{Places.Descriptor, Places.is_free_of, declared.call.Call.TheVariants.Step}
use Rattle.dma_chan.specs.Traffic.{member}
use Rattle.dma_engine.specs.Object.{ChannelState, Object, channel, is_set, issued_front}
use Rattle.dma_engine.specs.Turn.{start_turn, turn}
use Rattle.dma_engine.specs.View.{ChannelSchedule, IsSound, RunningTransfer, View, channels, object_of, runs, schedule_at}
use Rattle.dma_engine.specs.{declared.call.Reply.Reply, Answer.AreAnswers, Answer.CallAnswers, Room.IsIdle}
use Rattle.dma_engine.proofs.WhatRuns.{All_find, find_none_at}
use Rattle.dma_engine.proofs.{IdleSteps.idle_steps_stay, Queues.front_issued, StaysSound.answers_stay_sound, Turns.answer_is}
use Rattle.dma_commands.specs.Left.{view_after}
use Rattle.dma_commands.proofs.ScriptsSound.{scripts_leave_sound}
use Rattle.dma_why.specs.{declared.waits.Wait.Wait, Circles.IsCircle, Circles.IsWay, Laws.CirclesStay, Laws.CirclesStayAfter, Laws.IsStill, Waits.waits_of}
use Rattle.dma_why.proofs.Members.{All-from_in, in_cases, in_find, in_first, in_none, in_rest}
use Rattle.dma_why.proofs.ViewWaits.{AwaitsEvent, IsHeld, WouldBy, holder_holds, wait_says, would_signaller}
use Rattle.dma_why.proofs.{StepChanges.LeavesView, StepChanges.step_leaves, TurnParts.front_turned, TurnParts.held_front, TurnParts.waiting_front}

-- ---- a channel that can't move before another does

-- The issued front of a channel isn't free of what runs on another.
record HeldBy (c : ChannelState) (s : ChannelSchedule) (other : Option RunningTransfer) : Type 0 where
  transfer : Descriptor
  runs : RunningTransfer
  goes : c.halted ≡ false
  active : s.paused ≡ false
  rests : s.taken ≡ None
  issued : issued_front c ≡ Some transfer
  is : other ≡ Some runs
  conflicts : is_free_of transfer runs.transfer ≡ false

-- The front of a channel waits for an event, which only cookies of one channel would signal.
record AwaitsFrom (o : Object) (c : ChannelState) (s : ChannelSchedule) (by : ℕ) : Type 0 where
  transfer : Descriptor
  taken : ℕ
  event : ℕ
  invalid : Bool
  goes : c.halted ≡ false
  active : s.paused ≡ false
  runs : s.taken ≡ Some taken
  issued : issued_front c ≡ Some transfer
  next : member transfer taken ≡ Wfe event invalid
  clear : is_set o event ≡ false
  only : (ch number : ℕ) → ch < length o.channels → WouldBy (channel o ch) event number → ch ≡ by

-- one of the two
abbrev IsStuck : View → ℕ → ℕ → Type 0
IsStuck v ch by =
    HeldBy (channel (object_of v) ch) (schedule_at v ch) (runs (object_of v) v.schedule by)
    ⊎ AwaitsFrom (object_of v) (channel (object_of v) ch) (schedule_at v ch) by

-- ---- each wait of a view is of such a channel

held_stuck : (v : View) (w : Wait) → IsHeld v w.ch (turn v w.ch).0 w → IsStuck v w.ch w.by.ch
held_stuck v w h =
    let is = h.turned.2 in
    let p = front_turned v w.ch _ is (λ e. absurd cc) (λ e. absurd cc) (λ e. absurd cc) in
    let f = held_front v w.ch _ _ h.turned.0 h.turned.1 p.turned in
    let k = holder_holds v w.ch w.by h.by in
    let both : Some k.transfer ≡ Some f.0 = sym k.is ∙ front_issued (channel (object_of v) w.ch) f.0 f.1 in
    let same : k.transfer ≡ f.0 = cc in
    inl (record {
      transfer = f.0;
      runs = k.other;
      goes = p.goes;
      active = p.active;
      rests = f.2;
      issued = f.1;
      is = k.runs;
      conflicts = subst (λ t. is_free_of t k.other.transfer ≡ false) same k.conflicts;
    })

awaits_stuck : (v : View) (w : Wait) → AwaitsEvent v (turn v w.ch).0 w → IsStuck v w.ch w.by.ch
awaits_stuck v w h =
    let p = front_turned v w.ch _ h.turned (λ e. absurd cc) (λ e. absurd cc) (λ e. absurd cc) in
    let f = waiting_front v w.ch h.event _ _ p.turned in
    inr (record {
      transfer = f.0;
      taken = f.1;
      event = h.event;
      invalid = f.4.0;
      goes = p.goes;
      active = p.active;
      runs = f.3;
      issued = f.2;
      next = f.4.1;
      clear = f.4.2;
      only = λ ch number less would. h.all _ (would_signaller (object_of v) h.event ch number less would);
    })

wait_stuck : (v : View) (w : Wait) → Contains (waits_of v) w → (w.ch < channels v) × IsStuck v w.ch w.by.ch
wait_stuck v w i =
    let s = wait_says v w i in
    (s.0, elim s.1.1 [ inl h ↦ held_stuck v w h | inr h ↦ awaits_stuck v w h ])

-- ---- its next step changes nothing

start_idle : (v : View) (ch : ℕ) (x : Option RunningTransfer) → (x ≡ None → ⊥) → IsIdle (start_turn v ch x).0
start_idle v ch x h = grind (arith)

stuck_idle : (v : View) (ch by : ℕ) → ch < channels v → by < channels v → IsStuck v ch by → IsIdle (turn v ch).0
stuck_idle v ch by h h2 h3 = grind (arith, lt-leb, find_none_at, start_idle, cond_both)

-- ---- and it stays so when a third channel steps

stuck_still : (v w : View) (at ch by : ℕ) → at < channels v → LeavesView v w at → ch ≢ at → by ≢ at → IsStuck v ch by → IsStuck w ch by
stuck_still v w at ch by there l other third (inl h) = grind arith
stuck_still v w at ch by there l other third (inr h) =
    let c = l.object.others ch other in
    let s = l.schedules ch other in
    let before : (d number : ℕ) → WouldBy (channel (object_of w) d) h.event number → WouldBy (channel (object_of v) d) h.event number = λ d number would.
    elim (cases_eq d at) [
      | inl same ↦ subst (λ k. WouldBy (channel (object_of v) k) h.event number) (sym same)
          (l.object.fewer h.event number (subst (λ k. WouldBy (channel (object_of w) k) h.event number) same would))
      | inr differs ↦ subst (λ x. WouldBy x h.event number) (l.object.others d differs) would
    ] in
    inr (record {
      transfer = h.transfer;
      taken = h.taken;
      event = h.event;
      invalid = h.invalid;
      goes = rw c h.goes;
      active = rw s h.active;
      runs = rw s h.runs;
      issued = rw c h.issued;
      next = h.next;
      clear = elim (l.object.clear h.event h.clear) [ inl e ↦ e | inr f ↦ absurd (third (sym (h.only at f.0 there f.1))) ];
      only = λ d number less would. h.only d number (rw l.object.many at less) (before d number would);
    })

-- ---- a circle

-- Each wait is of a channel that is stuck, and for a channel of another of them.
record IsRing (circle : List Wait) : Type 0 where
  closed : (x : Wait) → Contains circle x → (y : Wait) × Contains circle y × (y.ch ≡ x.by.ch)

abbrev AreStuck : View → List Wait → Type 0
AreStuck v circle = (x : Wait) → Contains circle x → (x.ch < channels v) × IsStuck v x.ch x.by.ch

way_goes_on : (from to : ℕ) (path : List Wait) → IsWay from to path → (x : Wait) → Contains path x → ((y : Wait) × Contains path y × (y.ch ≡ x.by.ch))
    ⊎ (x.by.ch ≡ to)
way_goes_on from to [] is x i = absurd (in_none x i)
way_goes_on from to (w ∷ []) is x i = grind (arith, in_cases, in_none)
way_goes_on from to (w ∷ z ∷ more) is x i = elim (in_cases w (z ∷ more) x i) [
  | inl same ↦ inl (z, in_rest w (z ∷ more) z (in_first z more), is.1.0 ∙ ap (λ (y : Wait). y.by.ch) same)
  | inr rest ↦ elim (way_goes_on w.by.ch to (z ∷ more) is.1 x rest) [
    | inl f ↦ inl (f.0, in_rest w (z ∷ more) f.0 f.1, f.2)
    | inr e ↦ inr e
  ]
]

ring : (waits : List Wait) (first : ℕ) (circle : List Wait) → IsCircle waits first circle → IsRing circle
ring waits first [] is = absurd is
ring waits first (w ∷ more) is = record {
  closed = λ x i. elim (way_goes_on first first (w ∷ more) is.1 x i) [
    | inl f ↦ f
    | inr e ↦ (w, in_first w more, is.1.0 ∙ sym e)
  ];
}

-- ---- the steps

abbrev IsSame : View → View → ℕ → Type 0
IsSame v w ch = (channel (object_of w) ch ≡ channel (object_of v) ch) × (schedule_at w ch ≡ schedule_at v ch)

-- The circle is stuck, and as it was.
abbrev Stays : View → View → List Wait → Type 0
Stays v w circle = AreStuck w circle × ((x : Wait) → Contains circle x → IsSame v w x.ch)

stays_same : (v w : View) (circle : List Wait) → w ≡ v → AreStuck v circle → Stays v w circle
stays_same v w circle same h =
    (subst (λ u. AreStuck u circle) (sym same) h, λ x i. (ap (λ u. channel (object_of u) x.ch) same, ap (λ u. schedule_at u x.ch) same))

stays_on : (u v w : View) (circle : List Wait) → Stays u v circle → Stays v w circle → Stays u w circle
stays_on u v w circle a b = (b.0, λ x i. ((b.1 x i).0 ∙ (a.1 x i).0, (b.1 x i).1 ∙ (a.1 x i).1))

module _ (circle : List Wait) (r : IsRing circle) where
  member_idle : (v : View) → AreStuck v circle → (x : Wait) → Contains circle x → IsIdle (turn v x.ch).0
  member_idle v h x i =
      let next = r.closed x i in
      let there : x.by.ch < channels v = subst (λ c. c < channels v) next.2 (h next.0 next.1).0 in
      stuck_idle v x.ch x.by.ch (h x i).0 there (h x i).1

  step_stays : (v : View) (at : ℕ) → IsSound v → AreStuck v circle → Stays v (turn v at).1 circle
  step_stays v at sound h = by (find (λ x. x.ch == at) circle) refl where
    idle_stays : IsIdle (turn v at).0 → Stays v (turn v at).1 circle
    idle_stays i = stays_same v (turn v at).1 circle (idle_steps_stay v (turn v at).1 at (turn v at).0 i refl) h

    by : (o : Option Wait) → find (λ x. x.ch == at) circle ≡ o → Stays v (turn v at).1 circle
    by (Some x) e =
        let f = in_find (λ x. x.ch == at) circle x e in
        idle_stays (subst (λ c. IsIdle (turn v c).0) (eqb-true x.ch at f.1) (member_idle v h x f.0))
    by None e = elim (cases_lt at (channels v)) [
      | inr past ↦ let none : nat_le (channels v) at ≡ true = le-leb _ _ past in idle_stays (rw none tt)
      | inl less ↦
          let each = All_find (λ x. x.ch == at) circle e in
          let others : (x : Wait) → Contains circle x → x.ch ≢ at = λ x i.
          eqb-false x.ch at (All-contains (λ x. (x.ch == at) ≡ false) circle x each i) in
          let l = step_leaves v at sound in (
            λ x i.
                let next = r.closed x i in
                let third : x.by.ch ≢ at = λ e. others next.0 next.1 (next.2 ∙ e) in
                (rw l.object.many (h x i).0, stuck_still v (turn v at).1 at x.ch x.by.ch less l (others x i) third (h x i).1),
            λ x i. (l.object.others x.ch (others x i), l.schedules x.ch (others x i)),
          )
    ]

  answer_stays : (v w : View) (at : ℕ) (reply : Reply) → IsSound v → AreStuck v circle → CallAnswers v (Step at) reply w → Stays v w circle
  answer_stays v w at reply sound h a = elim (answer_is v w (Step at) reply a) [
    | inl none ↦ stays_same v w circle none.1 h
    | inr is ↦ subst (λ u. Stays v u circle) (sym (ap (λ (y : Reply × View). y.1) is)) (step_stays v at sound h)
  ]

  steps_stay : (steps : List ℕ) (replies : List Reply) (v w : View) → IsSound v → AreStuck v circle → AreAnswers v (map Step steps) replies w → Stays v w circle
  steps_stay [] [] v w sound h a = stays_same v w circle a h
  steps_stay [] (reply ∷ replies) v w sound h a = absurd a
  steps_stay (at ∷ steps) [] v w sound h a = absurd a
  steps_stay (at ∷ steps) (reply ∷ replies) v w sound h a =
      let first = answer_stays v a.0 at reply sound h a.1 in
      let next = answers_stay_sound v a.0 (Step at) reply tt sound a.1 in
      stays_on v a.0 w circle first (steps_stay steps replies a.0 w next first.0 a.2)

pub circles_stay : (v : View) → IsSound v → CirclesStay v
circles_stay v sound w first [] steps replies is a = absurd is
circles_stay v sound w first (x ∷ more) steps replies is a =
    let circle = x ∷ more in
    let r = ring (waits_of v) first circle is in
    let h : AreStuck v circle = λ y i. wait_stuck v y (All-contains (Contains (waits_of v)) circle y is.0 i) in
    let s = steps_stay circle r steps replies v w sound h a in
    All-from_in (λ y. IsStill v w y.ch) circle (λ y i. record { idle = member_idle circle r w s.0 y i; state = (s.1 y i).0; schedule = (s.1 y i).1 })

pub circles_stay_after : (input : List ℕ) → CirclesStayAfter input
circles_stay_after input = record {
  stay = λ script read. circles_stay (view_after script) (scripts_leave_sound input script read);
}
