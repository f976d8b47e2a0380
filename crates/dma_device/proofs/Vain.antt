-- A channel whose turns don't all wait in vain finishes.
use Rattle.std.proofs.Common.{◌≡◌, ◌≢◌, ◌∙◌, ℕ, suc, ◌+◌, ◌^◌, ◌<◌, ◌≤◌, Bool, true, false, ◌&&◌, [], Option, Some, Result, Ok, ap, refl, sym, subst}
use Rattle.std.proofs.Common.{arith, inl, inr, true≢false, w32}
use Rattle.std.specs.{Prelude.is_some, Prelude.nat_eq, Prelude.not, Prelude.slice_get, Int.bit_at, Int.bit_not}
use Rattle.std.proofs.{lemmas.Bool.and_parts, lemmas.Bool.cases_lt, lemmas.Bool.eq-eqb, lemmas.Bool.eqb-false, lemmas.Bool.eqb-true, lemmas.Bool.or_parts, lemmas.Nat.and_le_r, lemmas.Nat.Bits.bit_at_above}
use Rattle.dma_insn.specs.{ControlWord.flag, declared.chip.ChipInsn.ChipInsn, declared.chip.ChipInsn.TheVariants.Wfe}
use Rattle.dma_chan.specs.{Channel.ahead_of, declared.turn.FaultKind.FaultKind, Programs.ProgramValue, Stepping.machine}
use Rattle.dma_explain.proofs.{CallStays.ahead_at}
use Rattle.dma_device.specs.Progress.{TheLoopFinishes, VainTurnsWait, is_clear_wait, is_vain, vain, waits_in_vain}
use Rattle.dma_device.specs.{Copies.IsFit, Device.DeviceValue, Dmago.csr_status, Dmago.image_in, Idle.IsAtWait}
use Rattle.dma_device.specs.{Thread.is_faulting, Thread.runs, Turns.runs_at, Turns.visible_events, declared.thread.Thread.Thread}
use Rattle.dma_device.proofs.Driven.{Before, Copying, Drive, Going, before_each, copying, drive}
use Rattle.dma_device.proofs.Progress.{Ahead, Awake, Counts, Reached, stays_ahead, csr_stopped, going_runs, visible_bit, wait_ahead, within_count}
use Rattle.dma_device.proofs.{Calls.runs_found, Copies.Fine, Copies.turn_fine, Events.flag_of_bit}

-- ---- a turn that doesn't wait in vain

-- an event that channels see has one of the 32 flags
pub seen_below : (d : DeviceValue) (e : ℕ) → bit_at (visible_events d) e ≡ 1 → e < 32
seen_below d e on = elim (cases_lt e 32) [
  | inl below ↦ below
  | inr above ↦
      let few : visible_events d < 2 ^ 32 = omega (arith, and_le_r d.events (bit_not w32 d.inten)) in
      absurd (omega (arith, on, bit_at_above (visible_events d) 32 e few above))
]

-- the flag is set of an event for which a running thread doesn't wait in vain
pub flag_set : (d : DeviceValue) (n e : ℕ) (v : Bool) (th : Thread) → slice_get d.threads n ≡ Some th → runs th ≡ true → ahead_of th.channel ≡ Ok (Wfe e v)
    → waits_in_vain d n ≡ false → bit_at (visible_events d) e ≡ 1
flag_set d n e v th found on next calm = grind (arith, eqb-true)

awake : (c : Copying) (n : ℕ) (d : DeviceValue) (least : ℕ) → runs_at d n ≡ true → waits_in_vain d n ≡ false → Awake c n d least
awake c n d least on calm th e wait found in_program long =
    let next = ahead_at c.start c.program wait.step (Wfe e wait.invalid) th.channel in_program.begins in_program.registers wait.waits in
    let bit = flag_set d n e wait.invalid th found (sym (runs_found d n th found) ∙ on) next calm in
    flag_of_bit (visible_events d) e (seen_below d e bit) bit

-- ---- a turn that does

-- an instruction that is a DMAWFE of an event whose flag is clear
clear_wait : (flags : ℕ) (next : Result ChipInsn FaultKind) → is_clear_wait flags next ≡ true → (e : ℕ) × (v : Bool) × (next ≡ Ok (Wfe e v))
    × (bit_at flags e ≢ 1)
clear_wait flags next h = grind (arith, eq-eqb)

pub busy : (most : ℕ) → nat_eq most 0 ≡ false → 0 < most
busy most is = omega (arith, eqb-false most 0 is)

module _ (x : Drive) (fit : (k : ℕ) → k < x.run.count → IsFit x.go x.work x.count (x.run.before k) (x.run.lent k)) where
  open x use {run, go.{channel as n}}

  abbrev c : Copying
  c = copying x

  -- a thread that goes on and waits in vain
  at_wait : (k : ℕ) → k < run.count → (t : Thread) → slice_get (run.before k).threads n ≡ Some t → Going c (image_in (run.lent k)) t → runs t ≡ true
      → is_clear_wait (visible_events (run.before k)) (ahead_of t.channel) ≡ true → (event : ℕ) × IsAtWait (run.before k) n t event
  at_wait k less t found going on clear =
      let w = clear_wait (visible_events (run.before k)) (ahead_of t.channel) clear in
      let r = going.runs in
      let taken_is : t.channel.taken ≡ r.0 = r.1.taken in (
        w.0,
        record {
          found = found;
          running = on;
          invalid = w.1;
          next = w.2;
          few = omega (arith, taken_is, r.1.within, c.explains.few);
          known = (fit k less).events.waits w.0 (wait_ahead c [] (machine t.channel (image_in (run.lent k)) []) r w.0 w.1 w.2);
          unseen = λ see. w.3 (visible_bit (run.before k) w.0 see);
        },
      )

  vain_wait : (k : ℕ) → k < run.count → waits_in_vain (run.before k) n ≡ true → (t : Thread) × (event : ℕ) × IsAtWait (run.before k) n t event
  vain_wait k less vain =
      let g = before_each x (λ j. Unit {0}) (λ j. Fine c n) refl (turn_fine x fit) k less in
      let d = run.before k in
      let t = g.thread in
      let is : (runs t && is_clear_wait (visible_events d) (ahead_of t.channel)) ≡ true = grind (arith) in
      let both = and_parts (runs t) (is_clear_wait (visible_events d) (ahead_of t.channel)) is in
      elim g.holds [
        | inl over ↦ absurd (true≢false (sym both.0 ∙ ap (λ (p : Option ProgramValue). is_some p && not (is_faulting t)) over.0.gone))
        | inr going ↦ (let w = at_wait k less t g.is going.0 both.0 both.1 in (t, w.0, w.1))
      ]

  -- ---- along the turns

  -- it has executed an instruction for each of the first k turns that didn't wait in vain
  abbrev Early : ℕ → ℕ → Type 0
  Early k taken = k ≤ taken + vain run k n

  abbrev Counted : ℕ → Type 0
  Counted = Counts x Early

  counts : (j : ℕ) → j < run.count → Before x (Unit {0}) (Ahead Early j) j → Counted j
  counts j less g = elim g.holds [
    | inl over ↦ record {
      least = suc j;
      more = suc j;
      can = inl (omega arith);
      reached = record { thread = g.thread; is = g.is; holds = inl over };
      ahead = λ taken long within. omega (arith, long);
    }
    | inr going ↦ by (is_vain run j n) refl going.0 going.1
  ]
    where
      here : Going c (image_in (run.lent j)) g.thread → Ahead Early j g.thread
          → Before x (Unit {0}) (Reached c n g.thread.channel.taken) j
      here going known = record { thread = g.thread; is = g.is; holds = inr (going, record { fine = known.fine; enough = omega arith }) }

      by : (b : Bool) → is_vain run j n ≡ b → Going c (image_in (run.lent j)) g.thread → Ahead Early j g.thread → Counted j
      by true is going known =
          let early = known.ahead in
          let one = ap flag is in
          record {
            least = g.thread.channel.taken;
            more = g.thread.channel.taken;
            can = inl (omega arith);
            reached = here going known;
            ahead = λ taken long within. omega (arith, early, one, long);
          }
      by false is going known =
          let early = known.ahead in
          let one = ap flag is in
          let calm = or_parts (nat_eq (run.most j) 0) (waits_in_vain (run.before j) n) is in
          let on = going_runs c n (run.before j) (image_in (run.lent j)) g.thread g.is going known.fine in
          record {
            least = g.thread.channel.taken;
            more = g.thread.channel.taken + 1;
            can = inr (busy (run.most j) calm.0, (omega arith, awake c n (run.before j) g.thread.channel.taken on calm.1));
            reached = here going known;
            ahead = λ taken long within. omega (arith, early, one, long);
          }

  bounded : (k : ℕ) → k < run.count → csr_status (run.after k) n ≢ 0 → suc k ≤ x.count + vain run (suc k) n
  bounded k less goes =
      let g = stays_ahead x Early fit counts (λ taken. omega arith) k less in
      elim g.holds [
        | inl over ↦ absurd (goes (csr_stopped (run.after k) n g.thread x.copies.may_go.few g.is over.0.stopped))
        | inr going ↦
            let ahead = going.1.ahead in
            omega (arith, ahead, within_count x going.0)
      ]

pub vain_turns_wait : VainTurnsWait
vain_turns_wait go work n run h fit k less vain = vain_wait (drive go work n run h k less) fit k less vain

pub the_loop_finishes : TheLoopFinishes
the_loop_finishes go work n run h fit k less goes =
    let e : suc k ≡ k + 1 = omega arith in
    subst (λ (j : ℕ). j ≤ n + vain run j go.channel) e (bounded (drive go work n run h k less) fit k less goes)
