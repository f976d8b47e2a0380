-- What sets and takes events.
use Rattle.std.proofs.Common.{◌≡◌, ◌∙◌, ◌⊎◌, ℕ, zero, suc, ◌+◌, ◌-◌, ◌%◌, ◌^◌, ◌<◌, Bool, true, false, List, get_or, Option, Some, None, ap, refl, sym, subst, arith}
use Rattle.std.proofs.Common.{inl, inr, true≢false}
use Rattle.std.specs.{Prelude.◌↔◌, Prelude.max, Prelude.min, Prelude.slice_get, Int.bit_at}
use Rattle.std.proofs.lemmas.Bool.{cases_Bool, cases_eq, eq-eqb, ne_eqb}
use Rattle.std.proofs.lemmas.Nat.Bits.{bit_at-lt, bit_at_and, bit_at_not, bit_at_ones, bit_at_or, bit_at-zero}
use Rattle.dma_insn.specs.ControlWord.{flag}
use Rattle.dma_mem.specs.{Flags.flags_of, Marking.MarkList, Regions.pieces_of, declared.regions.Region.Region}
use Rattle.dma_mem.proofs.FlagBits.{get_or_flags_of}
use Rattle.dma_chan.specs.Stepping.{Machine, TakesSteps, goes_on_after, after_step, after_steps, answer_at}
use Rattle.dma_chan.specs.{declared.turn.ChanTurn.ChanTurn, declared.turn.ChanTurn.TheVariants.Waiting, Exec.ChangesNothing}
use Rattle.dma_chan.proofs.{StepsTaken.steps_move, SteppedOver.is_still}
use Rattle.dma_device.specs.Accesses.{Access, Answer, Does, Resets, Restores, Turns, Writes}
use Rattle.dma_device.specs.CallSteps.{StepsThread, first_in, last_in, marks_in, second_in, signal_in}
use Rattle.dma_device.specs.Device.{DeviceValue, with_thread, written}
use Rattle.dma_device.specs.Events.{CallTakes, Ends, EventsAreExact, IsSet, Sets, TakenWasSet, TurnTakes, WaitsForUnset}
use Rattle.dma_device.specs.Interrupts.{HasLine, IsHigh, TurnSignals}
use Rattle.dma_device.specs.Turns.{Outcome, Setup, TakesTurn, begins, called_if, follows, machine_in, number_of, setup_of, stepped, steps_in, visible_events, with_flags}
use Rattle.dma_device.specs.{declared.device.turns.Turn.Turn, declared.thread.Status.TheVariants.WaitingForEvent, declared.thread.Thread.Thread, Thread.answer}
use Rattle.dma_device.proofs.Calls.{acts_alike, call_acts, call_is, call_keeps, if_config, if_inten, machine_left, takes, thread_left, turn_device}
use Rattle.dma_device.proofs.FlagSteps.{Is, IsClear, Passes, clear_since, passed, waits_at}
use Rattle.dma_device.proofs.Interrupts.{Exact, all_have, restored_bit, exact_if_same, flag_bit, hidden, seen_bit, NonePass, below, flag_left, flag_sets}
use Rattle.dma_device.proofs.Interrupts.{flags_left}
use Rattle.dma_device.proofs.{WriteRaises.dbgcmd_raises, WriteRaises.has_kept, WriteRaises.intclr_lowers, WriteRaises.others_keep, Found.set_found, Iff.iff_or}
use Rattle.dma_device.proofs.History as history

-- ---- a call

-- bit k of the events after a call
event_after : (flags k : ℕ) (d : DeviceValue) → k < 32 → k < d.config.events → d.inten < 2 ^ 32
    → bit_at (with_flags flags d).events k ≡ max (min (bit_at d.events k) (bit_at d.inten k)) (min (min (bit_at flags k) 1) (1 - bit_at d.inten k))
event_after flags k d below event range = simp (bit_at_or, bit_at_and, bit_at_not, bit_at_ones)

pub flag_of_bit : (flags k : ℕ) → k < 32 → bit_at flags k ≡ 1 → Is k (flags_of flags)
flag_of_bit flags k below on = get_or_flags_of flags k below ∙ eq-eqb (bit_at flags k) 1 on

module _ (marks : MarkList) (most : ℕ) (t : Thread) (s : Setup) (k : ℕ) (has : HasLine s.device k) where
  abbrev d : DeviceValue
  d = s.device

  abbrev from : Machine
  from = machine_in s t

  abbrev flags : ℕ
  flags = flags_left marks most t s k has

  -- bit k of the events after the call
  abbrev after : ℕ
  after = bit_at (with_flags flags d).events k

  less_32 : k < 32
  less_32 = below marks most t s k has

  goes : (j : ℕ) → j < steps_in marks most t s → (m : ℕ) → m < suc j → goes_on_after marks from m ≡ true
  goes j less m l = steps_move (takes marks most t s) m (omega arith)

  bit_after : after ≡ max (min (bit_at d.events k) (bit_at d.inten k)) (min (min (bit_at flags k) 1) (1 - bit_at d.inten k))
  bit_after = event_after flags k d less_32 has.event has.inten

  -- no step takes an event that INTEN makes an interrupt
  hides : IsHigh d.inten k → NonePass marks most t s k has
  hides on j less w = true≢false (sym (passed marks from k j w).0 ∙ clear_since marks from k 0 j (omega arith) (goes j less) (hidden d k less_32 has.inten on))

  seen : ¬ IsHigh d.inten k → bit_at (visible_events d) k ≡ bit_at d.events k
  seen off = grind (arith, bit_at-lt, less_32, seen_bit)

  sets_exact : (after ≡ 1) ↔ (((¬ IsHigh d.inten k) × (signal_in marks most t s ≡ Some k)) ⊎ (IsSet d k × NonePass marks most t s k has))
  sets_exact = elim (cases_eq (bit_at d.inten k) 1) [
    | inl on ↦
        let same : after ≡ bit_at d.events k = omega (arith, bit_after, on, bit_at-lt d.events k) in
        ((λ high. inr (sym same ∙ high, hides on)), (λ why. elim why [ inl here ↦ absurd (here.0 on) | inr kept ↦ same ∙ kept.0 ]))
    | inr off ↦
        let exact = flag_sets marks most t s k has in
        let new : after ≡ bit_at flags k = omega (arith, bit_after, off, bit_at-lt d.inten k, bit_at-lt flags k) in (
          (λ high. elim (exact.0 (sym new ∙ high)) [
            | inl here ↦ inl (off, here)
            | inr kept ↦ inr (sym (seen off) ∙ flag_bit (visible_events d) k less_32 kept.0, kept.1)
          ]),
          (λ why. new ∙ exact.1 (elim why [
            | inl here ↦ inl here.1
            | inr kept ↦ inr (flag_of_bit (visible_events d) k less_32 (seen off ∙ kept.0), kept.1)
          ])),
        )
  ]

  -- what it takes was set, and INTEN makes it an event
  takes_set : (j : ℕ) → j < steps_in marks most t s → Passes marks from k j → IsSet d k × (¬ IsHigh d.inten k)
  takes_set j less w =
      let off : ¬ IsHigh d.inten k = (λ on. hides on j less w) in
      elim (cases_Bool (get_or from.flags k false)) [
        | inl was ↦ (sym (seen off) ∙ flag_bit (visible_events d) k less_32 was, off)
        | inr clear ↦ absurd (true≢false (sym (passed marks from k j w).0 ∙ clear_since marks from k 0 j (omega arith) (goes j less) clear))
      ]

-- ---- a wait

answer_waits : (events : ℕ) (th : Thread) (last : Option ChanTurn) (signal : Option ℕ) (k : ℕ) → (answer events th last signal).status ≡ WaitingForEvent k
    → last ≡ Some (Waiting k)
answer_waits events th last signal k is = grind arith

-- a call whose last step waits leaves the flag clear
last_unset : (marks : MarkList) (s v : Machine) (most taken : ℕ) (last : Option ChanTurn) (k : ℕ) → TakesSteps marks s most taken last v
    → last ≡ Some (Waiting k) → IsClear k v.flags
last_unset marks s v most zero last k x is = let bad : Some (Waiting k) ≡ None = sym is ∙ x.answer in absurd (cc)
last_unset marks s v most (suc j) last k x is =
    let u = after_steps marks s j in
    let same : Some (answer_at marks u) ≡ Some (Waiting k) = sym x.answer ∙ is in
    let waits : answer_at marks u ≡ Waiting k = cc in
    let still : after_step marks u ≡ u = is_still marks u (subst ChangesNothing (sym waits) tt) in
    ap (λ (m : Machine). get_or m.flags k false) (x.ends_at ∙ still) ∙ (waits_at marks u k waits).1.1

call_unset : (marks : MarkList) (most : ℕ) (t : Thread) (s : Setup) (k : ℕ) → HasLine s.device k → (thread_left marks most t s).status ≡ WaitingForEvent k
    → bit_at (with_flags (number_of (machine_left marks most t s).flags) s.device).events k ≡ 1 → IsHigh s.device.inten k
call_unset marks most t s k has is high =
    let d = s.device in
    let to = machine_left marks most t s in
    let end = last_in marks most t s in
    let last = answer_waits d.config.events (record t { channel = to.channel; pc = (t.base + to.channel.registers.pc) % 2 ^ 32 }) end (signal_in marks most t s)
    k is in
    let clear = last_unset marks (machine_in s t) to most (steps_in marks most t s) end k (takes marks most t s) last in
    let low : bit_at (number_of to.flags) k ≡ 0 = flag_left marks most t s k has ∙ ap flag clear in
    elim (cases_eq (bit_at d.inten k) 1) [
      | inl on ↦ on
      | inr off ↦ absurd (omega (arith, high, low, bit_after marks most t s k has, off, bit_at-lt d.inten k))
    ]

found_status : (d e : DeviceValue) (n k : ℕ) (old new t : Thread) → slice_get d.threads n ≡ Some old → e.threads ≡ (with_thread n new d).threads
    → slice_get e.threads n ≡ Some t → t.status ≡ WaitingForEvent k → new.status ≡ WaitingForEvent k
found_status d e n k old new t found is there waits = grind (arith, set_found)

-- if thread n waits for event k, then the event isn't set, or INTEN makes it an interrupt
abbrev Unset : ℕ → ℕ → DeviceValue → Type 0
Unset n k d = (t : Thread) → slice_get d.threads n ≡ Some t → t.status ≡ WaitingForEvent k → IsSet d k → IsHigh d.inten k

step_unset : (marks : MarkList) (n most : ℕ) (s : Setup) (k : ℕ) (made : Bool) → HasLine s.device k → (x : StepsThread made n s)
    → Unset n k (stepped marks n most x.thread s).left.device
step_unset marks n most s k made has x t found waits high =
    call_unset marks most x.thread s k has
    (found_status s.device (stepped marks n most x.thread s).left.device n k x.thread (thread_left marks most x.thread s) t x.found refl found waits) high

pub waits_for_unset : WaitsForUnset
waits_for_unset d e regions left n most k turn t x has starts found waits high =
    let marks = marks_in regions in
    let s = setup_of d regions in
    let first = first_in d regions n most in
    let made = begins d n most in
    let there = has_kept k d first.left.device (if_config made marks n most s) (if_inten made marks n most s) has in
    let one : Unset n k first.left.device = elim (call_is made marks n most s) [
      | inr acts ↦ subst (λ (o : Outcome). Unset n k o.left.device) (sym (call_acts marks most acts)) (step_unset marks n most s k made has acts)
      | inl rests ↦ λ t found waits high.
          absurd (rests.off (record {
            on = starts;
            thread = t;
            found = sym (ap (λ (o : Outcome). slice_get o.left.device.threads n) rests.is) ∙ found;
          }))
    ] in
    let goes = follows first.left.device n first.called in
    (subst (Unset n k) (turn_device x)
    (call_keeps (Unset n k) goes marks n 1 first.left one (λ acts. step_unset marks n 1 first.left k goes there acts))) t found waits high

-- after a call event k is set exactly if the call set it, or if it was set and the call doesn't take it
abbrev SetsBy : MarkList → ℕ → ℕ → Bool → ℕ → Setup → Outcome → Type 0
SetsBy marks n k made most s o =
    IsSet o.left.device k ↔ (((¬ IsHigh s.device.inten k) × (o.called.signal ≡ Some k)) ⊎ (IsSet s.device k × ¬ CallTakes marks n k made most s))

abbrev CallSets : MarkList → ℕ → ℕ → Bool → ℕ → Setup → Type 0
CallSets marks n k made most s = SetsBy marks n k made most s (called_if made marks n most s)

call_sets : (marks : MarkList) (n k : ℕ) (made : Bool) (most : ℕ) (s : Setup) → HasLine s.device k → CallSets marks n k made most s
call_sets marks n k made most s has = elim (call_is made marks n most s) [
  | inl rests ↦
      subst (SetsBy marks n k made most s) (sym rests.is)
      ((λ high. inr (high, λ w. rests.off w.executes)), (λ why. elim why [ inl here ↦ absurd (cc (here.1)) | inr kept ↦ kept.0 ]))
  | inr acts ↦
      subst (SetsBy marks n k made most s) (sym (call_acts marks most acts))
      (iff_or _ _ (IsSet s.device k × NonePass marks most acts.thread s k has) _
      (λ kept. (
        kept.0,
        λ w. acts_alike (λ (t : Thread). NonePass marks most t s k has) n made s acts w.executes kept.1 w.step w.early
            (w.invalid, w.dmawfe, w.passes),
      ))
      (λ kept. (kept.0, λ j less w. kept.1 (record { executes = acts; step = j; early = less; invalid = w.0; dmawfe = w.1; passes = w.2 })))
      (sets_exact marks most acts.thread s k has))
]

call_takes_set : (marks : MarkList) (n k : ℕ) (made : Bool) (most : ℕ) (s : Setup) → HasLine s.device k → CallTakes marks n k made most s → IsSet s.device k
    × (¬ IsHigh s.device.inten k)
call_takes_set marks n k made most s has w = takes_set marks most w.executes.thread s k has w.step w.early (w.invalid, w.dmawfe, w.passes)

-- ---- a turn

module _ (d : DeviceValue) (regions : List Region) (n most k : ℕ) (has : HasLine d k) where
  abbrev in_regions : MarkList
  in_regions = marks_in regions

  abbrev first : Outcome
  first = first_in d regions n most

  abbrev m : DeviceValue
  m = first.left.device

  abbrev second : Outcome
  second = second_in d regions n most

  abbrev going : Bool
  going = follows m n first.called

  one : CallSets in_regions n k (begins d n most) most (setup_of d regions)
  one = call_sets in_regions n k (begins d n most) most (setup_of d regions) has

  inten_same : m.inten ≡ d.inten
  inten_same = if_inten (begins d n most) in_regions n most (setup_of d regions)

  has_middle : HasLine m k
  has_middle = has_kept k d m (if_config (begins d n most) in_regions n most (setup_of d regions)) inten_same has

  two : CallSets in_regions n k going 1 first.left
  two = call_sets in_regions n k going 1 first.left has_middle

  off_middle : ¬ IsHigh d.inten k → ¬ IsHigh m.inten k
  off_middle off = subst (λ (i : ℕ). ¬ IsHigh i k) (sym inten_same) off

  off_before : ¬ IsHigh m.inten k → ¬ IsHigh d.inten k
  off_before off = subst (λ (i : ℕ). ¬ IsHigh i k) inten_same off

  -- no call follows one that set event k
  none_follows : ¬ IsHigh d.inten k → first.called.signal ≡ Some k → going ≡ false
  none_follows off here = grind (arith, ne_eqb, off_middle)

  turn_sets : IsSet second.left.device k ↔ (((¬ IsHigh d.inten k) × TurnSignals d regions n most k) ⊎ (IsSet d k × ¬ TurnTakes d regions n most k))
  turn_sets = grind (arith, one, two, none_follows, off_middle, off_before)

  turn_takes_set : TurnTakes d regions n most k → IsSet d k × (¬ IsHigh d.inten k)
  turn_takes_set w =
      let begun = call_takes_set in_regions n k (begins d n most) most (setup_of d regions) has in
      grind (arith, one, none_follows, off_before, begun, call_takes_set in_regions n k going 1 first.left has_middle)

-- ---- one access

write_exact : (k at value : ℕ) (d : DeviceValue) (regions : List Region) → HasLine d k → let e = written (pieces_of regions) at value d in
    Exact k d.events e.events (Sets k (Writes at value) d regions) (Ends k (Writes at value) d regions)
write_exact k at value d regions has =
    let keeps = others_keep false d (pieces_of regions) at value in
    grind (arith, intclr_lowers false d (pieces_of regions) value k has, dbgcmd_raises false d (pieces_of regions) value k, keeps)

turn_exact : (k n most : ℕ) (d e : DeviceValue) (regions left : List Region) (turn : Turn) → HasLine d k → TakesTurn d regions n most e left turn
    → Exact k d.events e.events (Sets k (Turns n most) d regions) (Ends k (Turns n most) d regions)
turn_exact k n most d e regions left turn has x =
    subst (λ (v : DeviceValue). Exact k d.events v.events (Sets k (Turns n most) d regions) (Ends k (Turns n most) d regions)) (turn_device x)
    (turn_sets d regions n most k has)

access_exact : (k : ℕ) (a : Access) (d e : DeviceValue) (regions left : List Region) (answer : Answer) → HasLine d k → Does a d regions answer e left
    → Exact k d.events e.events (Sets k a d regions) (Ends k a d regions)
access_exact k (Writes at value) d e regions left answer has x =
    subst (λ (v : DeviceValue). Exact k d.events v.events (Sets k (Writes at value) d regions) (Ends k (Writes at value) d regions)) (sym x.1)
    (write_exact k at value d regions has)
access_exact k (Turns n most) d e regions left answer has x = turn_exact k n most d e regions left x.0 has x.1.1
access_exact k Resets d e regions left answer has x = grind (arith, bit_at-zero)
access_exact k (Restores saved) d e regions left answer has x = restored_bit k saved.events d.events e.events (ap (λ (v : DeviceValue). v.events) x.1)
access_exact k a d e regions left answer has x =
    exact_if_same k d.events e.events (Sets k a d regions) (Ends k a d regions) (ap (λ (v : DeviceValue). v.events) x.1) (λ up. up.1) (λ down. down)

-- ---- accesses in a row

pub events_are_exact : EventsAreExact
events_are_exact access answer before lent left count k n happen has within =
    history.held (λ j. IsSet (before j) k) (λ j. Sets k (access j) (before j) (lent j)) (λ j. Ends k (access j) (before j) (lent j)) count
    (λ j less. access_exact k (access j) (before j) (before (j + 1)) (lent j) (left j) (answer j)
    (all_have access answer before lent left count k happen has j (omega arith)) (happen j less)) n within

pub taken_was_set : TakenWasSet
taken_was_set (Turns n most) d e regions left answer k does has takes = turn_takes_set d regions n most k has takes
taken_was_set a d e regions left answer k does has takes = absurd takes
