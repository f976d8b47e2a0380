-- At the interrupts of a program with several DMASEVs of one event, what it stores before each of them is done in turn.
use Rattle.std.proofs.Common.{◌≡◌, ◌∙◌, ◌⊎◌, ℕ, zero, suc, ◌+◌, ◌<◌, ◌≤◌, List, Option, Some, Ok, ap, refl, sym, subst, arith, inl}
use Rattle.std.proofs.Common.{inr, cond}
use Rattle.std.specs.List.{count_by}
use Rattle.std.proofs.{lemmas.Bool.cases_eq, lemmas.Bool.cases_lt, lemmas.Bool.eq-eqb, lemmas.List.Sums.sum_by-append}
use Rattle.dma_insn.specs.{declared.chip.ChipInsn.TheVariants.Sev}
use Rattle.dma_mem.specs.{Marking.MarkList}
use Rattle.dma_chan.specs.Stepping.{Machine, TakesSteps, after_step, after_steps, answer_at, signal_after, signal_of}
use Rattle.dma_chan.specs.{Channel.ChannelValue, Channel.ahead_of, Exec.State, declared.exec.Registers.Registers, declared.turn.ChanTurn.ChanTurn}
use Rattle.dma_chan.specs.{declared.turn.ChanTurn.TheVariants.Moved}
use Rattle.dma_explain.specs.Explains.{amounts_of, events_in, happening_of, next_in, traced}
use Rattle.dma_explain.specs.{declared.explain.Amounts.Amounts, declared.explain.Happening.Happening}
use Rattle.dma_explain.proofs.CallsAmongOthers.{is_signal, many, moved_on, next_ahead}
use Rattle.dma_explain.proofs.{SinceLoads.done_grows}
use Rattle.dma_chan.proofs.{CallWrites.does_next, StepsTaken.steps_move}
use Rattle.dma_device.specs.Copies.{AreDone, DmagoInterruptsEach, IsSignalNumber, Rises, RisesInEach, is_signal_of, signals_in}
use Rattle.dma_device.specs.Dmago.{image_in}
use Rattle.dma_device.specs.{declared.thread.Thread.Thread}
use Rattle.dma_device.proofs.Driven.{Call, Copying, Drive, RunsOn, Steps, along, channel_after, copying, count_in, drive, from, last_answer, new}
use Rattle.dma_device.proofs.Driven.{one_at, result_of, sent_by, steps_of, to, turned, two_at, weaker}
use Rattle.dma_device.proofs.{Copies.DoneAt, Copies.call_later, Copies.many_later, Copies.none_sent, Copies.rises_by, Copies.stands_done}

-- ---- the DMASEVs of an event among a program's first instructions

module _ (start : Registers) (program : List ℕ) (e : ℕ) where
  abbrev Count : ℕ → ℕ
  Count k = signals_in start program e k

  abbrev here : ℕ → List Happening
  here k = let x = traced start program k in happening_of (next_in program x) (amounts_of x)

  next_count : (k : ℕ) → Count (suc k) ≡ Count k + count_by (λ h. is_signal_of e h.sync) (here k)
  next_count k = sum_by-append (λ h. cond (is_signal_of e h.sync) 1 0) (events_in start program k) (here k)

  counts_grow : (k m : ℕ) → k ≤ m → Count k ≤ Count m
  counts_grow k zero l = let same : k ≡ 0 = omega (arith, l) in omega (arith, ap Count same)
  counts_grow k (suc m) l = elim (cases_eq k (suc m)) [
    | inl same ↦ omega (arith, ap Count same)
    | inr other ↦ omega (arith, next_count m, counts_grow k m (omega (arith, l, other)))
  ]

  -- a DMASEV of the event counts
  sev_counts : (k : ℕ) → next_in program (traced start program k) ≡ Ok (Sev e) → Count (suc k) ≡ Count k + 1
  sev_counts k is = grind (arith, eq-eqb, next_count)

-- ---- a call that signals

module _ (c : Copying) (marks : MarkList) (e : ℕ) where
  -- how many of a program's first k instructions are DMASEVs of the event
  abbrev Sent : ℕ → ℕ
  Sent k = signals_in c.start c.program e k

  -- the step at a DMASEV of the event
  step_counts : (u : Machine) → RunsOn c u → signal_of (ahead_of u.channel) ≡ Some e → Sent (after_step marks u).channel.taken ≡ Sent u.channel.taken + 1
  step_counts u r signal =
      let k = r.0 in
      let ahead = is_signal (ahead_of u.channel) e signal in
      let moves : answer_at marks u ≡ Moved = ap (λ (x : ChanTurn × State). x.0) (does_next marks (Sev e) u ahead) in
      let later = moved_on c.start c.program c.work c.count marks c.first c.explains c.fits k u r.1 moves in
      let next = next_ahead c.start c.program c.work c.count marks c.first c.explains c.fits k u (next_in c.program (traced c.start c.program k)) r.1 refl in
      ap Sent later.taken ∙ sev_counts c.start c.program e k (sym next ∙ ahead) ∙ ap (λ (m : ℕ). Sent m + 1) (sym r.1.taken)

  -- a call whose last step is a DMASEV of the event passes at least this one
  call_counts : (s v : Machine) (most taken : ℕ) (last : Option ChanTurn) → RunsOn c s → TakesSteps marks s most taken last v
      → signal_after marks s taken ≡ Some e → Sent s.channel.taken < Sent v.channel.taken
  call_counts s v most zero last r steps signal = absurd (cc)
  call_counts s v most (suc p) last r steps signal =
      let u = after_steps marks s p in
      let there = many c.start c.program c.work c.count marks c.first c.explains c.fits p s r (steps_move steps) in
      let grows = counts_grow c.start c.program e s.channel.taken u.channel.taken (many_later c marks p s r (steps_move steps)) in
      let same = ap (λ (m : Machine). Sent m.channel.taken) steps.ends_at in
      omega (arith, grows, same, step_counts u there signal)

-- ---- a turn

-- these numbers, or one more than these if S
abbrev More : (ℕ → Type 0) → Type 0 → ℕ → Type 0
More F S b = F b ⊎ ((a : ℕ) × S × F a × (b ≡ suc a))

module _ (c : Copying) (n i : ℕ) where
  -- the channel has executed at least as many DMASEVs of the event as each of these numbers
  abbrev Counts : (ℕ → Type 0) → Thread → Type 0
  Counts F th = (b : ℕ) → F b → b ≤ signals_in c.start c.program i th.channel.taken

  steps_counts : (F : ℕ → Type 0) (k : Call) → Steps c n (Unit {0}) (Counts F) (Unit {0}) (Counts (More F (sent_by n k ≡ Some i))) k
  steps_counts F k = record {
    rests_over = λ none o. o;
    rests = λ off none th found g known b why. elim why [ inl f ↦ known b f | inr w ↦ absurd (none_sent (result_of n k).called i none w.1) ];
    ends = λ th g known sent ended. tt;
    goes = λ made th found g known sent goes b why.
        let same = ap (λ (v : ChannelValue). signals_in c.start c.program i v.taken) (channel_after k th) in
        let on = call_later c k.marks (from k th) (to k th) k.most (count_in k th) (last_answer k th) goes g.runs (steps_of k th) in
        elim why [
          | inl f ↦ omega (arith, same, known b f, counts_grow c.start c.program i th.channel.taken (to k th).channel.taken on)
          | inr w ↦
              let counts = call_counts c k.marks i (from k th) (to k th) k.most (count_in k th) (last_answer k th) g.runs (steps_of k th) (sym sent ∙ w.1) in
              omega (arith, same, w.3, known w.0 w.2, counts)
        ];
  }

-- ---- along the turns

module _ (x : Drive) (i j : ℕ) (turn : ℕ → ℕ) (each : RisesInEach x.run i j turn) where
  open x use {run, go.{channel as n}}

  abbrev c : Copying
  c = copying x

  -- the first b of the turns in which the line rose come before turn number k
  abbrev Rose : ℕ → ℕ → Type 0
  Rose k zero = Unit {0}
  Rose k (suc a) = (a ≤ j) × (turn a < k)

  -- the turns before turn number a of these come before it
  before_each : (a : ℕ) → a ≤ j → Rose (turn a) a
  before_each a h = grind (arith)

  abbrev one : ℕ → Type 0
  one k = sent_by n (one_at x k) ≡ Some i

  abbrev two : ℕ → Type 0
  two k = sent_by n (two_at x k) ≡ Some i

  raised_by : (k : ℕ) → k < run.count → (b : ℕ) → Rose (suc k) b → More (More (Rose k) (one k)) (two k) b
  raised_by k less zero rose = inl (inl tt)
  raised_by k less (suc a) rose = elim (cases_eq (turn a) k) [
    | inr other ↦ inl (inl (rose.0, omega (arith, other, rose.1)))
    | inl same ↦
        let earlier = subst (λ (m : ℕ). Rose m a) same (before_each a rose.0) in
        elim (rises_by x i k less (subst (Rises run i) same (each.rises a rose.0))) [
          | inl is ↦ inl (inr (a, is, earlier, refl))
          | inr is ↦ inr (a, is, inl earlier, refl)
        ]
  ]

  abbrev Known : ℕ → Thread → Type 0
  Known k = Counts c n i (Rose k)

  none_rose : Known 0 (new x)
  none_rose = grind (arith)

  module _ (done : Amounts) (sev : IsSignalNumber c.start c.program c.count i j done) where
    -- a channel that has executed more DMASEVs of the event is behind this one
    passed : (taken : ℕ) → j < signals_in c.start c.program i taken → DoneAt c.start c.program done taken
    passed taken more =
        let step = sev.signal.step in
        let behind : step ≤ taken = elim (cases_lt step taken) [
          | inl within ↦ omega (arith, within)
          | inr short ↦ absurd (omega (arith, sev.number, more, counts_grow c.start c.program i taken step short))
        ] in
        subst (λ (a : Amounts). DoneAt c.start c.program a taken) sev.signal.after (done_grows c.start c.program step taken behind)

    each_copied : (k : ℕ) → turn j ≤ k → k < run.count → AreDone x.work done c.first (image_in (run.left k))
    each_copied k late less =
        let counted = along x (λ k. Unit {0}) Known none_rose (λ k less g.
        let w = turned x k less (steps_counts c n i (Rose k) (one_at x k)) (steps_counts c n i (More (Rose k) (one k)) (two_at x k)) g in
        weaker x k (λ o. o) (λ th going known b rose. known b (raised_by k less b rose)) w) in
        let behind : (th : Thread) → Known (suc k) th → DoneAt c.start c.program done th.channel.taken =
        (λ th known. passed th.channel.taken (omega (arith, known (suc j) (omega arith, omega (arith, late))))) in
        let g = weaker x k (λ o. o) (λ th going. behind th) (counted k less) in
        stands_done c (image_in (run.left k)) done g.thread g.holds

pub dmago_interrupts_each : DmagoInterruptsEach
dmago_interrupts_each go work n run i j done turn h sev each k late less = each_copied (drive go work n run h k less) i j turn each done sev k late less
