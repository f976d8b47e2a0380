-- What steps make of the flags: only a DMASEV and a DMAWFE change one; and a step that waits.
use Rattle.std.proofs.Common.{◌≡◌, ◌≢◌, ◌∙◌, ◌⊎◌, ℕ, zero, suc, ◌<◌, ◌≤◌, Bool, true, false, List, ◌∷◌, length, get_or, set, Option, Some, Result, Ok}
use Rattle.std.proofs.Common.{ap, refl, sym, subst, arith, inl, inr, true≢false}
use Rattle.std.specs.Prelude.{◌↔◌}
use Rattle.std.proofs.{lemmas.Bool.cases_Bool, lemmas.Bool.cases_eq, lemmas.List.get_or-set_other, lemmas.List.get_or-set_same, lemmas.List.length-set}
use Rattle.dma_insn.specs.{declared.chip.ChipInsn.ChipInsn, declared.chip.ChipInsn.TheVariants.Sev, declared.chip.ChipInsn.TheVariants.Wfe}
use Rattle.dma_mem.specs.Marking.{MarkList}
use Rattle.dma_chan.specs.Stepping.{Machine, TakesSteps, after_steps, answer_at, goes_on, goes_on_after, signal_after, signal_of}
use Rattle.dma_chan.specs.{Channel.ahead_of, Channel.state_of, Exec.State, Exec.act, Exec.exec_fetched, declared.turn.ChanTurn.ChanTurn}
use Rattle.dma_chan.specs.{declared.turn.ChanTurn.TheVariants.Moved, declared.turn.ChanTurn.TheVariants.Waiting, declared.turn.FaultKind.FaultKind}
use Rattle.dma_chan.proofs.{ActCases.act_cases, ActCases.fetched_cases, StepsTaken.steps_move, SteppedOver.went_before}

-- what holds of flags, and still holds once a DMASEV set one or a DMAWFE cleared one
act_flags : (P : List Bool → Type 0) (marks : MarkList) (i : ChipInsn) (s : State) → P s.flags → ((e : ℕ) → i ≡ Sev e → P (set s.flags e true))
    → ((e : ℕ) (v : Bool) → i ≡ Wfe e v → P (set s.flags e false)) → P (act marks i s).1.flags
act_flags P marks i s h sets clears = grind (arith, act_cases)

-- steps keep the number of flags
fetched_length : (marks : MarkList) (next : Result ChipInsn FaultKind) (s : State) → length (exec_fetched marks next s).1.flags ≡ length s.flags
fetched_length marks next s = grind (arith, act_flags, length-set)

pub steps_flags : (marks : MarkList) (s : Machine) (k : ℕ) → length (after_steps marks s k).flags ≡ length s.flags
steps_flags marks s zero = refl
steps_flags marks s (suc k) = grind (arith, fetched_length, steps_flags marks s k)

-- ---- one flag

abbrev pub IsClear : ℕ → List Bool → Type 0
IsClear k flags = get_or flags k false ≡ false

cleared : (xs : List Bool) (e k : ℕ) → IsClear k xs → IsClear k (set xs e false)
cleared (x ∷ xs) zero zero h = refl
cleared (x ∷ xs) (suc e) (suc k) h = cleared xs e k h
cleared xs e k h = h

step_clear : (marks : MarkList) (next : Result ChipInsn FaultKind) (s : State) (k : ℕ) → IsClear k s.flags → signal_of next ≢ Some k
    → IsClear k (exec_fetched marks next s).1.flags
step_clear marks next s k h h2 = grind (arith, act_flags, get_or-set_other)

-- an instruction that signals an event sets its flag
step_sets : (marks : MarkList) (next : Result ChipInsn FaultKind) (s : State) (k : ℕ) → signal_of next ≡ Some k
    → (exec_fetched marks next s).1.flags ≡ set s.flags k true
step_sets marks next s k h = grind (arith)

quiet : (turn : ChanTurn) (signal : Option ℕ) (k : ℕ) → goes_on turn signal ≡ true → signal ≢ Some k
quiet turn signal k h is = grind arith

is_signal : (signal : Option ℕ) (k : ℕ) → (signal ≡ Some k) ⊎ (signal ≢ Some k)
is_signal signal k = grind (arith, cases_eq)

abbrev pub Is : ℕ → List Bool → Type 0
Is k flags = get_or flags k false ≡ true

set_true : (xs : List Bool) (e k : ℕ) → Is k xs → Is k (set xs e true)
set_true (x ∷ xs) zero zero h = refl
set_true (x ∷ xs) (suc e) (suc k) h = set_true xs e k h
set_true xs e k h = h

set_false : (xs : List Bool) (k : ℕ) → IsClear k (set xs k false)
set_false (x ∷ xs) (suc k) = set_false xs k
set_false xs k = refl

-- a set flag stays set, unless a DMAWFE takes it
act_keeps : (marks : MarkList) (i : ChipInsn) (s : State) (k : ℕ) → Is k s.flags → ((v : Bool) → i ≡ Wfe k v → (act marks i s).0 ≢ Moved)
    → Is k (act marks i s).1.flags
act_keeps marks i s k h none = grind (arith, act_flags, get_or-set_other, set_true)

step_keeps : (marks : MarkList) (next : Result ChipInsn FaultKind) (s : State) (k : ℕ) → Is k s.flags
    → ((v : Bool) → next ≡ Ok (Wfe k v) → (exec_fetched marks next s).0 ≢ Moved) → Is k (exec_fetched marks next s).1.flags
step_keeps marks next s k h h2 = grind (arith, act_keeps)

-- a DMAWFE that passes found its flag set, and clears it
wfe_takes : (marks : MarkList) (s : State) (k : ℕ) (v b : Bool) → get_or s.flags k false ≡ b → (act marks (Wfe k v) s).0 ≡ Moved → Is k s.flags
    × IsClear k (act marks (Wfe k v) s).1.flags
wfe_takes marks s k v b h h2 = grind (arith, set_false)

step_takes : (marks : MarkList) (next : Result ChipInsn FaultKind) (s : State) (k : ℕ) (v : Bool) → next ≡ Ok (Wfe k v) → (exec_fetched marks next s).0 ≡ Moved
    → Is k s.flags × IsClear k (exec_fetched marks next s).1.flags
step_takes marks next s k v is moved =
    subst (λ (x : Result ChipInsn FaultKind). Is k s.flags × IsClear k (exec_fetched marks x s).1.flags) (sym is)
    (wfe_takes marks s k v (get_or s.flags k false) refl (ap (λ (x : Result ChipInsn FaultKind). (exec_fetched marks x s).0) (sym is) ∙ moved))

-- ---- the steps of a call

abbrev state_in : Machine → State
state_in u = state_of u.channel u.image u.flags

module _ (marks : MarkList) (s : Machine) (k : ℕ) where
  abbrev pub at : ℕ → Machine
  at j = after_steps marks s j

  abbrev pub Clear : ℕ → Type 0
  Clear j = IsClear k (at j).flags

  abbrev pub Passes : ℕ → Type 0
  Passes j = (v : Bool) × (ahead_of (at j).channel ≡ Ok (Wfe k v)) × (answer_at marks (at j) ≡ Moved)

  abbrev pub GoesTo : ℕ → Type 0
  GoesTo j = (m : ℕ) → m < suc j → goes_on_after marks s m ≡ true

  pub clear_since : (i j : ℕ) → i ≤ j → GoesTo j → Clear i → Clear j
  clear_since i zero few goes h = let none : i ≡ 0 = omega arith in subst Clear none h
  clear_since i (suc j) few goes h = elim (cases_eq i (suc j)) [
    | inl same ↦ subst Clear same h
    | inr early ↦
        let before = clear_since i j (omega arith) (λ m l. goes m (omega arith)) h in
        let next = ahead_of (at j).channel in
        step_clear marks next (state_in (at j)) k before
        (quiet (answer_at marks (at j)) (signal_of next) k (went_before marks s (suc j) (goes (suc j) (omega arith))))
  ]

  set_since : (j : ℕ) → GoesTo j → Is k s.flags → ((i : ℕ) → i < j → ¬ Passes i) → Is k (at j).flags
  set_since zero goes h none = h
  set_since (suc j) goes h none =
      step_keeps marks (ahead_of (at j).channel) (state_in (at j)) k (set_since j (λ m l. goes m (omega arith)) h (λ i l. none i (omega arith)))
      (λ v is moved. none j (omega arith) (v, is, moved))

  pub passed : (j : ℕ) → Passes j → Is k (at j).flags × Clear (suc j)
  passed j w = step_takes marks (ahead_of (at j).channel) (state_in (at j)) k w.0 w.1 w.2

  -- a flag is set after a call exactly if the last step signals its event, or if it was set and no step took it
  pub flag_exact : (v : Machine) (most taken : ℕ) (last : Option ChanTurn) → TakesSteps marks s most taken last v → length v.flags ≡ 32 → k < 32
      → Is k v.flags ↔ ((signal_after marks s taken ≡ Some k) ⊎ (Is k s.flags × ((j : ℕ) → j < taken → ¬ Passes j)))
  flag_exact v most zero last x len below = grind arith
  flag_exact v most (suc p) last x len below =
      let u = at p in
      let next = ahead_of u.channel in
      let flags : v.flags ≡ (exec_fetched marks next (state_in u)).1.flags = ap (λ (m : Machine). m.flags) x.ends_at in
      let clears : signal_of next ≢ Some k → Clear p → IsClear k v.flags =
      (λ other clear. subst (IsClear k) (sym flags) (step_clear marks next (state_in u) k clear other)) in (
        (λ high. elim (is_signal (signal_of next) k) [
          | inl here ↦ inl here
          | inr other ↦
              inr (
                elim (cases_Bool (get_or s.flags k false)) [
                  | inl was ↦ was
                  | inr clear ↦ absurd (true≢false (sym high ∙ clears other (clear_since 0 p (omega arith) (steps_move x) clear)))
                ],
                λ j less w. elim (cases_eq j p) [
                  | inl last ↦
                      let clear = subst (λ (m : ℕ). Clear (suc m)) last (passed j w).1 in
                      true≢false (sym high ∙ ap (λ (m : Machine). get_or m.flags k false) x.ends_at ∙ clear)
                  | inr early ↦ true≢false (sym high ∙ clears other (clear_since (suc j) p (omega arith) (steps_move x) (passed j w).1))
                ],
              )
        ]),
        (λ why. elim why [
          | inl here ↦
              let new : v.flags ≡ set u.flags k true = flags ∙ step_sets marks next (state_in u) k here in
              let long : length u.flags ≡ 32 = sym (length-set u.flags k true) ∙ sym (ap (λ (f : List Bool). length f) new) ∙ len in
              ap (λ (f : List Bool). get_or f k false) new ∙ get_or-set_same u.flags k true false (omega arith)
          | inr kept ↦
              let before = set_since p (steps_move x) kept.0 (λ i l. kept.1 i (omega arith)) in
              subst (Is k) (sym flags) (step_keeps marks next (state_in u) k before (λ v is moved. kept.1 p (omega arith) (v, is, moved)))
        ]),
      )

-- ---- a step that waits

-- a wait is a DMAWFE of an event whose flag is clear
abbrev Waits : Result ChipInsn FaultKind → List Bool → ChanTurn × State → Type 0
Waits next flags x = (e : ℕ) → x.0 ≡ Waiting e → (v : Bool) × ((next ≡ Ok (Wfe e v)) × (get_or flags e false ≡ false))

step_waits : (marks : MarkList) (next : Result ChipInsn FaultKind) (s : State) → Waits next s.flags (exec_fetched marks next s)
step_waits marks next s = grind (arith, fetched_cases)

pub waits_at : (marks : MarkList) (u : Machine) (e : ℕ) → answer_at marks u ≡ Waiting e → (v : Bool)
    × ((ahead_of u.channel ≡ Ok (Wfe e v)) × (get_or u.flags e false ≡ false))
waits_at marks u = step_waits marks (ahead_of u.channel) (state_of u.channel u.image u.flags)
