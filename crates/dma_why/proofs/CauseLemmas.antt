-- Waits lead from each channel with an unfinished cookie to a cause, if no channel's step changes anything.
use Rattle.std.proofs.Common.{◌≡◌, ℕ, ◌+◌, ◌<◌, ◌≤◌, zero, suc, List, [], ◌∷◌, ◌++◌, Option, Some, None, Bool, false, refl, ap, sym, subst, arith, inl, inr}
use Rattle.std.proofs.Common.{◌⊎◌}
use Rattle.std.specs.Prelude.{◌==◌, if◌then◌else◌, is_some, length, nat_le, not, IsSome, Result, Ok}
use Rattle.std.specs.List.{All, Contains, list_all}
use Rattle.std.proofs.lemmas.Bool.{cases_Bool, cases_lt, cases_order, cond_both, eqb-false, lt-leb, not-true}
use Rattle.std.proofs.lemmas.List.Elements.{All-append, All-cons, All-nil, All-weaker}
use Rattle.std.proofs.{lemmas.List.get_or_past, lemmas.Option.slice_get_within}
use Rattle.dma_insn.specs.declared.chip.ChipInsn.{ChipInsn}
use Rattle.dma_mem.specs.{Places.Descriptor, Places.is_free_of}
use Rattle.dma_engine.specs.declared.turn.Turn.TheVariants.{Halted, Paused}
use Rattle.dma_engine.specs.Object.{channel, empty_channel, front, issued_front, unfinished}
use Rattle.dma_engine.specs.Turn.{Stepped, first_conflicting, front_turn, insn_turn, start_turn, turn}
use Rattle.dma_engine.specs.View.{RunningTransfer, View, channels, object_of, running, schedule_at}
use Rattle.dma_engine.specs.{declared.fault.EngineFault.EngineFault, declared.turn.Turn.Turn, Room.IsIdle}
use Rattle.dma_engine.proofs.Queues.{front_issued}
use Rattle.dma_why.specs.Laws.{AreNotOnOneChannel, CausesAreNamed, IsCause}
use Rattle.dma_why.specs.Waits.{event_wait, holder, holders, holders_of, signallers, waits_by, waits_of}
use Rattle.dma_why.specs.{declared.waits.Cookie.Cookie, declared.waits.Wait.Wait, Circles.IsWay, Circles.circle_from}
use Rattle.dma_why.proofs.ViewWaits.{holder_holds, runs_named, says, signaller_would, wait_of_view, wait_says, waits_below}
use Rattle.dma_why.proofs.{CircleLemmas.circle_found, Members.filter_map_in, Members.in_find, Members.in_first, Members.in_rest, Members.map_in, TurnParts.insn_idle}

-- ---- a channel whose step changes nothing has a cause, or waits for another

abbrev Why : View → ℕ → Result Turn EngineFault → Type 0
Why v ch r = IsCause v ch r ⊎ ((w : Wait) × Contains (waits_by v ch r) w)

-- one that doesn't pass the test
not_all : {X : Type 0} (p : X → Bool) (xs : List X) → list_all p xs ≡ false → (y : X) × Contains xs y × (p y ≡ false)
not_all p [] h = absurd cc
not_all p (x ∷ xs) h = elim (cases_Bool (p x)) [
  | inr e ↦ (x, in_first x xs, e)
  | inl e ↦ let r = not_all p xs (rw e at h) in (r.0, in_rest x xs r.0 r.1, r.2)
]

why_event : (ch event : ℕ) (found : List Cookie) → AreNotOnOneChannel found ⊎ ((w : Wait) × Contains (event_wait ch event found) w)
why_event ch event [] = inl (inl refl)
why_event ch event (x ∷ xs) = elim (cases_Bool (list_all (λ c. c.ch == x.ch) (x ∷ xs))) [
  | inl e ↦ inr (record { ch = ch; event = Some event; by = x }, rw e (in_first _ []))
  | inr e ↦
      let y = not_all (λ c. c.ch == x.ch) (x ∷ xs) e in inl (inr (y.0, x, y.1, in_first x xs, eqb-false y.0.ch x.ch y.2))
]

insn_why : (v : View) (ch n : ℕ) (t : Descriptor) (i : ChipInsn) → IsIdle (insn_turn v ch t n i).0 → Why v ch (insn_turn v ch t n i).0
insn_why v ch n t i h =
    let idle = insn_idle v ch n t i h in subst (Why v ch) (sym idle.turned) (why_event ch idle.event (signallers (object_of v) idle.event))

-- a front that is held: by the first that it isn't free of, among others
start_why : (v : View) (ch : ℕ) (t : Descriptor) (x : Option RunningTransfer) → front (channel (object_of v) ch) ≡ Some t → first_conflicting v t ≡ x
    → IsIdle (start_turn v ch x).0 → Why v ch (start_turn v ch x).0
start_why v ch t None is found h = absurd h
start_why v ch t (Some r) is found h =
    let f = in_find (λ y. not (is_free_of t y.transfer)) (running (object_of v) v.schedule) r found in
    let conflicts : is_free_of t r.transfer ≡ false = not-true _ f.1 in
    let by : Cookie = record { ch = r.ch; number = r.cookie } in
    let here : Contains (holders_of v (Some t)) by = filter_map_in (holder t) (running (object_of v) v.schedule) r by f.0 (rw conflicts refl) in
    let all : Contains (holders v ch) by = subst (λ o. Contains (holders_of v o) by) (sym is) here in
    let mk : Cookie → Wait = λ by. record { ch = ch; event = None; by = by } in
    inr (mk by, map_in mk (holders v ch) by all)

front_why : (v : View) (ch : ℕ) (x : Option Descriptor) (taken : Option ℕ) → issued_front (channel (object_of v) ch) ≡ x
    → 0 < unfinished (channel (object_of v) ch) → IsIdle (front_turn v ch x taken).0 → Why v ch (front_turn v ch x taken).0
front_why v ch x taken h h2 h3 = grind (arith, start_why, front_issued, cond_both, insn_why)

-- a channel with an unfinished cookie exists
works_there : (v : View) (ch : ℕ) → 0 < unfinished (channel (object_of v) ch) → ch < channels v
works_there v ch works = elim (cases_lt ch (channels v)) [
  | inl less ↦ less
  | inr past ↦
      let none : unfinished (channel (object_of v) ch) ≡ 0 = ap unfinished (get_or_past (object_of v).channels ch empty_channel past) in
      absurd (omega (arith, works, none))
]

why : (v : View) (ch : ℕ) → 0 < unfinished (channel (object_of v) ch) → IsIdle (turn v ch).0 → Why v ch (turn v ch).0
why v ch works =
    let c = channel (object_of v) ch in
    let s = schedule_at v ch in
    let last = front_turn v ch (issued_front c) s.taken in
    let third : Stepped = if s.paused then (Ok Paused, v) else last in
    let here : nat_le (channels v) ch ≡ false = lt-leb _ _ (works_there v ch works) in
    let P : Stepped → Type 0 = λ x. IsIdle x.0 → Why v ch x.0 in
    rw here (cond_both {A = Stepped} c.halted (Ok Halted, v) third P (λ _ _. inl tt)
    (λ _. cond_both {A = Stepped} s.paused (Ok Paused, v) last P (λ _ _. inl tt)
    (λ _. front_why v ch (issued_front c) s.taken refl works)))

-- and what it waits for has an unfinished cookie
wait_works : (v : View) (w : Wait) → Contains (waits_of v) w → 0 < unfinished (channel (object_of v) w.by.ch)
wait_works v w i = elim (wait_says v w i).1.1 [
  | inl h ↦
      let k = holder_holds v w.ch w.by h.by in
      let c = channel (object_of v) w.by.ch in
      let named = runs_named w.by.ch c (schedule_at v w.by.ch).taken k.other k.runs in
      omega (arith, slice_get_within c.submitted (length c.outcomes) k.other.transfer named.1)
  | inr h ↦ let would = (signaller_would (object_of v) h.event w.by h.by).1 in omega (arith, would.0, would.1)
]

-- ---- ways

way_joined : (from mid to : ℕ) (p q : List Wait) → IsWay from mid p → IsWay mid to q → IsWay from to (p ++ q)
way_joined from mid to [] q p_is q_is = subst (λ c. IsWay c to q) (sym p_is) q_is
way_joined from mid to (w ∷ p) q p_is q_is = (p_is.0, way_joined w.by.ch mid to p q p_is.1 q_is)

-- a channel with a cause, or from which a circle is named
abbrev Done : View → ℕ → Type 0
Done v end = IsCause v end (turn v end).0 ⊎ IsSome (circle_from (waits_of v) (channels v) end)

-- Waits lead over channels from `low` on to such a channel, or to one below `low`.
record Leads (v : View) (low ch : ℕ) : Type 0 where
  end : ℕ
  way : List Wait
  waits : All (Contains (waits_of v)) way
  leads : IsWay ch end way
  above : All (λ x. low ≤ x.ch) way
  cause : Done v end ⊎ ((end < low) × (0 < unfinished (channel (object_of v) end)))

at_once : (v : View) (low ch : ℕ) → Done v ch → Leads v low ch
at_once v low ch done =
    record { end = ch; way = []; waits = All-nil (Contains (waits_of v)); leads = refl; above = All-nil (λ x. low ≤ x.ch); cause = inl done }

-- one wait more before the way
on : (v : View) (low : ℕ) (w : Wait) → Contains (waits_of v) w → low ≤ w.ch → Leads v low w.by.ch → Leads v low w.ch
on v low w i above r = record {
  end = r.end;
  way = w ∷ r.way;
  waits = All-cons (Contains (waits_of v)) w r.way i r.waits;
  leads = (refl, r.leads);
  above = All-cons (λ x. low ≤ x.ch) w r.way above r.above;
  cause = r.cause;
}

-- a way over channels above `low` leads on over those from `low` on, or to `low`
lower : (v : View) (low ch : ℕ) (r : Leads v (low + 1) ch) → Leads v low ch ⊎ ((r.end ≡ low) × (0 < unfinished (channel (object_of v) r.end)))
lower v low ch r =
    let above = All-weaker (λ x. low + 1 ≤ x.ch) (λ x. low ≤ x.ch) (λ x h. omega (arith, h)) r.way r.above in
    let on : Done v r.end ⊎ ((r.end < low) × (0 < unfinished (channel (object_of v) r.end))) → Leads v low ch = λ cause.
    record { end = r.end; way = r.way; waits = r.waits; leads = r.leads; above = above; cause = cause } in
    elim r.cause [
      | inl done ↦ inl (on (inl done))
      | inr past ↦ elim (cases_lt r.end low) [
        | inl less ↦ inl (on (inr (less, past.1)))
        | inr same ↦ inr (omega (arith, same, past.0), past.1)
      ]
    ]

-- a way back is a circle
circle_done : (v : View) (low : ℕ) (w : Wait) (way : List Wait) → Contains (waits_of v) w → w.ch ≡ low → All (Contains (waits_of v)) way → IsWay w.by.ch low way
    → All (λ x. low + 1 ≤ x.ch) way → Done v low
circle_done v low w way i here waits leads above =
    let among = All-cons (Contains (waits_of v)) w way i waits in
    let higher = All-weaker (λ x. low + 1 ≤ x.ch) (λ x. low < x.ch) (λ x h. omega (arith, h)) way above in
    let f = circle_found (waits_of v) (channels v) low (w ∷ way) (waits_below v) (among, (here, leads), higher) in
    inr (ap is_some f.1.1)

-- From `low`, if each higher channel leads on over higher ones.
from_low : (v : View) (low : ℕ) → ((ch : ℕ) → IsIdle (turn v ch).0) → ((ch : ℕ) → low < ch → 0 < unfinished (channel (object_of v) ch) → Leads v (low + 1) ch)
    → 0 < unfinished (channel (object_of v) low) → Leads v low low
from_low v low idle later works = elim (why v low works (idle low)) [
  | inl cause ↦ at_once v low low (inl cause)
  | inr f ↦ by_wait f.0 (wait_of_view v low f.0 (works_there v low works) f.1) (says v low (turn v low).0 f.0 f.1).0
] where
  after : (w : Wait) → Contains (waits_of v) w → w.ch ≡ low → Leads v (low + 1) w.by.ch → Leads v low low
  after w i here r = elim (lower v low w.by.ch r) [
    | inl l ↦ subst (Leads v low) here (on v low w i (omega (arith, here)) l)
    | inr back ↦
        at_once v low low (circle_done v low w r.way i here r.waits (subst (λ c. IsWay w.by.ch c r.way) back.0 r.leads) r.above)
  ]

  by_wait : (w : Wait) → Contains (waits_of v) w → w.ch ≡ low → Leads v low low
  by_wait w i here = elim (cases_order w.by.ch low) [
    | inl same ↦ at_once v low low (circle_done v low w [] i here (All-nil (Contains (waits_of v))) same (All-nil (λ x. low + 1 ≤ x.ch)))
    | inr (inl less) ↦
        subst (Leads v low) here (on v low w i (omega (arith, here))
        (record {
          end = w.by.ch;
          way = [];
          waits = All-nil (Contains (waits_of v));
          leads = refl;
          above = All-nil (λ x. low ≤ x.ch);
          cause =
              inr (less, wait_works v w i);
        }))
    | inr (inr more) ↦ after w i here (later w.by.ch more (wait_works v w i))
  ]

-- from each channel from `low` on
all_lead : (v : View) → ((ch : ℕ) → IsIdle (turn v ch).0) → (n low : ℕ) → low + n ≡ channels v → (ch : ℕ) → low ≤ ch → 0 < unfinished (channel (object_of v) ch)
    → Leads v low ch
all_lead v idle zero low m ch above works = absurd (omega (arith, works_there v ch works, above, m))
all_lead v idle (suc n) low m ch above works =
    let later : (d : ℕ) → low < d → 0 < unfinished (channel (object_of v) d) → Leads v (low + 1) d = λ d less there.
    all_lead v idle n (low + 1) (omega (arith, m)) d (omega (arith, less)) there in
    elim (cases_lt low ch) [
      | inr same ↦
          let here : ch ≡ low = omega (arith, same, above) in
          subst (Leads v low) (sym here) (from_low v low idle later (subst (λ c. 0 < unfinished (channel (object_of v) c)) here works))
      | inl less ↦
          let r = later ch less works in
          elim (lower v low ch r) [
            | inl l ↦ l
            | inr back ↦
                let l = from_low v low idle later (subst (λ c. 0 < unfinished (channel (object_of v) c)) back.0 back.1) in
                record {
                  end = l.end;
                  way = r.way ++ l.way;
                  waits = All-append (Contains (waits_of v)) r.way l.way r.waits l.waits;
                  leads = way_joined ch low l.end r.way l.way (subst (λ c. IsWay ch c r.way) back.0 r.leads) l.leads;
                  above = All-append (λ x. low ≤ x.ch) r.way l.way
                      (All-weaker (λ x. low + 1 ≤ x.ch) (λ x. low ≤ x.ch) (λ x h. omega (arith, h)) r.way r.above) l.above;
                  cause = l.cause;
                }
          ]
    ]

pub causes_are_named : CausesAreNamed
causes_are_named v idle ch works =
    let r = all_lead v idle (channels v) 0 (omega arith) ch (omega arith) works in
    record {
      end = r.end;
      way = r.way;
      waits = r.waits;
      leads = r.leads;
      cause = elim r.cause [ inl done ↦ done | inr none ↦ absurd (omega (arith, none.0)) ];
    }
