-- The line of an event that a program signals was high after one of its turns.
use Rattle.std.proofs.Common.{◌≡◌, ◌≢◌, ◌∙◌, ◌⊎◌, ℕ, zero, suc, ◌<◌, ◌≤◌, true, false, Option, Some, Ok, ap, refl, sym, subst, arith, inl, inr}
use Rattle.std.proofs.Common.{true≢false}
use Rattle.std.proofs.lemmas.Bool.{cases_eq}
use Rattle.dma_insn.specs.declared.chip.ChipInsn.TheVariants.{Sev}
use Rattle.dma_mem.specs.{Marking.MarkList}
use Rattle.dma_chan.specs.Stepping.{Machine, TakesSteps, after_steps, answer_at, goes_on, goes_on_after, signal_after, signal_of}
use Rattle.dma_chan.specs.declared.turn.ChanTurn.TheVariants.{Moved, Waiting, Ended, Fault}
use Rattle.dma_chan.specs.{Channel.ChannelValue, Channel.ahead_of, Exec.ChangesNothing, declared.turn.ChanTurn.ChanTurn}
use Rattle.dma_explain.specs.{Explains.IsSignal, Explains.next_in, Explains.traced, declared.explain.Amounts.Amounts}
use Rattle.dma_explain.proofs.{AmongOthers.goes_on_at, CallsAmongOthers.many, CallsAmongOthers.next_ahead}
use Rattle.dma_chan.proofs.{StepsTaken.steps_move, SteppedOver.is_still, SteppedOver.went_before}
use Rattle.dma_device.specs.Dmago.{csr_status, start_of}
use Rattle.dma_device.specs.{Device.irqs, Interrupts.HasLine, Interrupts.IsHigh, Progress.DmagoSignals, Progress.WasHigh}
use Rattle.dma_device.specs.{declared.thread.Thread.Thread}
use Rattle.dma_device.proofs.Driven.{Call, Copying, Drive, Going, RunsOn, Steps, along, channel_after, copying, count_in, drive, from, last_answer}
use Rattle.dma_device.proofs.Driven.{one_at, sent_by, sets, steps_of, to, turned, two_at, weaker}
use Rattle.dma_device.proofs.{Starts.reads_stopped, Interrupts.turn_raises, Progress.step_count, Progress.went_moved}

-- ---- a call of a channel with a program that copies

module _ (c : Copying) (marks : MarkList) (i : ℕ) (done : Amounts) (sev : IsSignal c.start c.program c.count i done) where
  -- the next instruction of a channel that has executed this many is the DMASEV
  is_sev : (u : Machine) (r : RunsOn c u) → u.channel.taken ≡ sev.step → ahead_of u.channel ≡ Ok (Sev i)
  is_sev u r place =
      let same : sev.step ≡ r.0 = sym place ∙ r.1.taken in
      next_ahead c.start c.program c.work c.count marks c.first c.explains c.fits r.0 u (Ok (Sev i)) r.1
      (subst (λ (k : ℕ). next_in c.program (traced c.start c.program k) ≡ Ok (Sev i)) same sev.signals)

  -- a step that goes on from before the DMASEV stays before it
  before_sev : (s : Machine) (j : ℕ) → RunsOn c s → s.channel.taken ≤ sev.step
      → ((k : ℕ) → k < suc j → goes_on_after marks s k ≡ true) → (after_steps marks s j).channel.taken ≤ sev.step
  before_sev s zero r early moves = early
  before_sev s (suc j) r early moves =
      let u = after_steps marks s j in
      let w = many c.start c.program c.work c.count marks c.first c.explains c.fits j s r (λ k l. moves k (omega arith)) in
      let counts = step_count marks u (went_moved marks s j (moves (suc j) (omega arith))) in
      elim (cases_eq u.channel.taken sev.step) [
        | inl place ↦
            let quiet = went_before marks s (suc j) (moves (suc j) (omega arith)) in
            absurd (true≢false (sym quiet ∙ ap (λ (o : Option ℕ). goes_on (answer_at marks u) o) (ap signal_of (is_sev u w place)) ∙ none (answer_at marks u)))
        | inr other ↦ omega (arith, before_sev s j r early (λ k l. moves k (omega arith)), counts, other)
      ]
    where
      none : (a : ChanTurn) → goes_on a (Some i) ≡ false
      none Moved = refl
      none Ended = refl
      none (Waiting k) = refl
      none (Fault kind) = refl

  -- a call that begins before the DMASEV executes it as its last step, or is still before it
  call_signals : (s v : Machine) (most taken : ℕ) (last : Option ChanTurn) → RunsOn c s → s.channel.taken ≤ sev.step
      → TakesSteps marks s most taken last v → (signal_after marks s taken ≡ Some i) ⊎ ((last ≢ Some Ended) × (v.channel.taken ≤ sev.step))
  call_signals s v most zero last r early x = grind arith
  call_signals s v most (suc p) last r early x = by (answer_at marks (after_steps marks s p)) refl
    where
      here : (after_steps marks s p).channel.taken ≤ sev.step
      here = before_sev s p r early (steps_move x)

      runs_there : RunsOn c (after_steps marks s p)
      runs_there = many c.start c.program c.work c.count marks c.first c.explains c.fits p s r (steps_move x)

      still : (a : ChanTurn) → answer_at marks (after_steps marks s p) ≡ a → ChangesNothing a → v.channel.taken ≤ sev.step
      still a is nothing =
          let same = ap (λ (m : Machine). m.channel.taken) (x.ends_at ∙ is_still marks (after_steps marks s p) (subst ChangesNothing (sym is) nothing)) in
          omega (arith, here, same)

      answered_as : (a : ChanTurn) → answer_at marks (after_steps marks s p) ≡ a → last ≡ Some a
      answered_as a is = x.answer ∙ ap (λ (b : ChanTurn). Some b) is

      by : (a : ChanTurn) → answer_at marks (after_steps marks s p) ≡ a → (signal_after marks s (suc p) ≡ Some i)
          ⊎ ((last ≢ Some Ended) × (v.channel.taken ≤ sev.step))
      by Moved is =
          let counts = step_count marks (after_steps marks s p) is in
          let end = ap (λ (m : Machine). m.channel.taken) x.ends_at in
          elim (cases_eq (after_steps marks s p).channel.taken sev.step) [
            | inl place ↦ inl (ap signal_of (is_sev (after_steps marks s p) runs_there place))
            | inr other ↦ inr ((λ bad. let a = sym (answered_as Moved is) ∙ bad in cc), omega (arith, here, counts, end, other))
          ]
      by (Waiting k) is = inr ((λ bad. let a = sym (answered_as (Waiting k) is) ∙ bad in cc), still (Waiting k) is tt)
      by (Fault kind) is = inr ((λ bad. let a = sym (answered_as (Fault kind) is) ∙ bad in cc), still (Fault kind) is tt)
      by Ended is =
          let taken : (after_steps marks s p).channel.taken ≡ runs_there.0 = runs_there.1.taken in
          absurd (goes_on_at c.start c.program c.work c.count marks c.first c.explains c.fits runs_there.0 (after_steps marks s p) Ended is runs_there.1
          (omega (arith, taken, here, sev.within)))

-- ---- a turn

module _ (c : Copying) (n i : ℕ) (done : Amounts) (sev : IsSignal c.start c.program c.count i done) where
  -- the DMASEV comes later, or S
  abbrev Signs : Type 0 → Thread → Type 0
  Signs S th = (th.channel.taken ≤ sev.step) ⊎ S

  steps_signs : (S : Type 0) (k : Call) → Steps c n S (Signs S) (S ⊎ (sent_by n k ≡ Some i)) (Signs (S ⊎ (sent_by n k ≡ Some i))) k
  steps_signs S k = record {
    rests_over = λ none s. inl s;
    rests = λ off none th found g known. elim known [ inl early ↦ inl early | inr s ↦ inr (inl s) ];
    ends = λ th g known is ended. elim known [
      | inr s ↦ inl s
      | inl early ↦ elim (sends th g early) [ inl sent ↦ inr (is ∙ sent) | inr later ↦ absurd (later.0 ended) ]
    ];
    goes = λ made th found g known is goes.
        let same = ap (λ (v : ChannelValue). v.taken) (channel_after k th) in
        elim known [
          | inr s ↦ inr (inl s)
          | inl early ↦ elim (sends th g early) [ inl sent ↦ inr (inr (is ∙ sent)) | inr later ↦ inl (omega (arith, same, later.1)) ]
        ];
  }
    where
      sends : (th : Thread) → Going c k.before.image th → th.channel.taken ≤ sev.step → (sets k th ≡ Some i)
          ⊎ ((last_answer k th ≢ Some Ended) × ((to k th).channel.taken ≤ sev.step))
      sends th g early =
          call_signals c k.marks i done sev (from k th) (to k th) k.most (count_in k th) (last_answer k th) g.runs early (steps_of k th)

-- ---- along the turns

module _ (x : Drive) (i : ℕ) (done : Amounts) (sev : IsSignal (start_of x.go) x.go.program x.count i done)
    (on : (k : ℕ) → k < x.run.count → HasLine (x.run.before k) i × IsHigh (x.run.before k).inten i) where
  open x use {run, go.{channel as n}}

  abbrev c : Copying
  c = copying x

  -- its line was high after a turn before number j
  record Was (j : ℕ) : Type 0 where
    turn : ℕ
    early : turn < j
    high : IsHigh (irqs (run.after turn)) i

  more : (j : ℕ) → j < run.count → (Was j ⊎ (sent_by n (one_at x j) ≡ Some i)) ⊎ (sent_by n (two_at x j) ≡ Some i) → Was (suc j)
  more j less why = elim why [
    | inl a ↦ elim a [ inl b ↦ (let early = b.early in record { turn = b.turn; early = omega (arith, early); high = b.high }) | inr is ↦ high (inl is) ]
    | inr is ↦ high (inr is)
  ]
    where
      high : (sent_by n (one_at x j) ≡ Some i) ⊎ (sent_by n (two_at x j) ≡ Some i) → Was (suc j)
      high is =
          let t = x.copies.takes j less in
          let raises = turn_raises (run.before j) (run.after j) (run.lent j) (run.left j) n (run.most j) i t.0 t.1 (on j less).0 in
          record { turn = j; early = omega arith; high = raises.1 (inr ((on j less).1, is)) }

  signals : (k : ℕ) → k < run.count → csr_status (run.after k) n ≡ 0 → WasHigh run i k
  signals k less stopped =
      let g = along x Was (λ j. Signs c n i done sev (Was j)) (inl (omega arith)) (λ j l b.
      let w = turned x j l (steps_signs c n i done sev (Was j) (one_at x j))
      (steps_signs c n i done sev (Was j ⊎ (sent_by n (one_at x j) ≡ Some i)) (two_at x j)) b in
      weaker x j (more j l) (λ th going known. elim known [ inl early ↦ inl early | inr s ↦ inr (more j l s) ]) w) k less in
      elim g.holds [
        | inl over ↦ (let w = over.1 in let early = w.early in record { turn = w.turn; early = omega (arith, early); high = w.high })
        | inr going ↦ absurd (true≢false (sym (reads_stopped (run.after k) n g.thread x.copies.may_go.few g.is stopped) ∙ going.0.busy))
      ]

pub dmago_signals : DmagoSignals
dmago_signals go work n run i done h sev on k less stopped = signals (drive go work n run h k less) i done sev on k less stopped
