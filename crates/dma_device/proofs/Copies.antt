-- What a program that a DMAGO starts copies.
use Rattle.std.proofs.Common.{◌≡◌, ◌≢◌, ◌∙◌, ◌⊎◌, ℕ, suc, ◌<◌, ◌≤◌, true, false, List, [], length, Some, ap, refl, sym, subst, arith, inl, inr, true≢false}
use Rattle.std.proofs.Common.{zero, Option}
use Rattle.std.specs.Prelude.{nat_lt}
use Rattle.std.proofs.{lemmas.List.Elements.Contains-append_left, lemmas.List.Elements.Contains-append_right, lemmas.Bool.and_parts, lemmas.Bool.cases_eq}
use Rattle.dma_mem.specs.{Marking.MarkList, Places.destinations, Places.size_of, declared.regions.Region.Region}
use Rattle.dma_mem.proofs.OverTransfers.{Contains_take}
use Rattle.dma_explain.specs.Explains.{IsAtLeast, IsSignal, IsWait, all_of, amounts_of, cleared, traced}
use Rattle.dma_explain.specs.{Works.IsWorked, Works.MissesAll, declared.explain.Amounts.Amounts}
use Rattle.dma_chan.specs.Stepping.{Machine, TakesSteps, machine, after_step, after_steps, answer_at, goes_on_after}
use Rattle.dma_chan.specs.{Channel.ChannelValue, Channel.ahead_of, declared.exec.Registers.Registers, Exec.ChangesNothing, declared.turn.ChanTurn.ChanTurn}
use Rattle.dma_chan.specs.{declared.turn.ChanTurn.TheVariants.Moved, declared.turn.ChanTurn.TheVariants.Ended}
use Rattle.dma_explain.proofs.CallsAmongOthers.{call_answers, call_fails, call_waits, done_at, signalled, many}
use Rattle.dma_explain.proofs.SinceLoads.{IsPart, part_first, runs_so, worked_part, done_grows}
use Rattle.dma_explain.proofs.{RegionsHave.gaps_miss, AmongOthers.Among}
use Rattle.dma_device.specs.Copies.{AreDone, DmagoCopies, DmagoInterrupts, DmagoNeverFails, HasRisen, IsFit, Rises}
use Rattle.dma_device.specs.Dmago.{csr_status, image_in}
use Rattle.dma_device.specs.Turns.{begins, runs_at, setup_of}
use Rattle.dma_device.specs.{CallSteps.first_in, CallSteps.marks_in, Device.DeviceValue, Thread.is_faulting}
use Rattle.dma_device.specs.{declared.config.Config.Config, declared.device.turns.Called.Called, declared.thread.Thread.Thread}
use Rattle.dma_chan.proofs.{StepsTaken.steps_move, SteppedOver.is_still, SteppedOver.was_moved, SteppedOver.went_before}
use Rattle.dma_device.proofs.Driven.{After, Before, Call, Copying, Drive, Going, RunsOn, Stands, Steps, after_steps_of, along, at_answer, channel_after, copying}
use Rattle.dma_device.proofs.Driven.{count_in, drive, from, last_answer, new, one_at, result_of, sent_by, sets, steps_of, to, turned, two_at, weaker}
use Rattle.dma_device.proofs.Starts.{reads_fine, reads_stopped, stopped_fine}
use Rattle.dma_device.proofs.{Answered.answer_fine, Calls.if_config, Calls.nothing, Interrupts.turn_raises}
use borrow.Author.Tests.{ltb-true}

-- ---- a program does no less as it goes on

-- at least this is done after so many instructions
abbrev pub DoneAt : Registers → List ℕ → Amounts → ℕ → Type 0
DoneAt start program least k = IsAtLeast least (amounts_of (traced start program k))

later : (start : Registers) (program : List ℕ) (least : Amounts) (k m : ℕ) → k ≤ m → DoneAt start program least k → DoneAt start program least m
later start program least k m l w =
    let g = done_grows start program k m l in
    record { copied = omega (arith, w.copied, g.copied); cleared = omega (arith, w.cleared, g.cleared) }

module _ (c : Copying) (marks : MarkList) where
  moved_later : (n : ℕ) (u : Machine) → Among c.start c.program c.work c.count c.first n u.image u.channel → answer_at marks u ≡ Moved
      → u.channel.taken ≤ (after_step marks u).channel.taken
  moved_later n u w moved = grind arith

  pub many_later : (j : ℕ) (s : Machine) → RunsOn c s → ((k : ℕ) → k < suc j → goes_on_after marks s k ≡ true)
      → s.channel.taken ≤ (after_steps marks s j).channel.taken
  many_later zero s r moves = omega arith
  many_later (suc j) s r moves =
      let u = after_steps marks s j in
      let w = many c.start c.program c.work c.count marks c.first c.explains c.fits j s r (λ k l. moves k (omega arith)) in
      let moved = was_moved (ahead_of u.channel) (answer_at marks u) (went_before marks s (suc j) (moves (suc j) (omega arith))) in
      omega (arith, many_later j s r (λ k l. moves k (omega arith)), moved_later w.0 u w.1 moved)

  still_same : (u : Machine) → ChangesNothing (answer_at marks u) → u.channel.taken ≤ (after_step marks u).channel.taken
  still_same u nothing = let same = ap (λ (m : Machine). m.channel.taken) (is_still marks u nothing) in omega arith

  one_later : (n : ℕ) (u : Machine) (turn : ChanTurn) → turn ≢ Ended → Among c.start c.program c.work c.count c.first n u.image u.channel
      → answer_at marks u ≡ turn → u.channel.taken ≤ (after_step marks u).channel.taken
  one_later n u turn h1 h2 h3 = grind (arith, moved_later, still_same)

  -- a call that doesn't end the program leads from before its instructions to behind them
  pub call_later : (s v : Machine) (most taken : ℕ) (last : Option ChanTurn) → last ≢ Some Ended → RunsOn c s
      → TakesSteps marks s most taken last v → s.channel.taken ≤ v.channel.taken
  call_later s v most zero last goes r steps = let same = ap (λ (m : Machine). m.channel.taken) steps.ends_at in omega arith
  call_later s v most (suc p) last goes r steps =
      let u = after_steps marks s p in
      let w = many c.start c.program c.work c.count marks c.first c.explains c.fits p s r (steps_move steps) in
      let same = ap (λ (m : Machine). m.channel.taken) steps.ends_at in
      let other : answer_at marks u ≢ Ended = λ over. goes (steps.answer ∙ ap (λ (a : ChanTurn). Some a) over) in
      omega (arith, same, many_later p s r (steps_move steps), one_later w.0 u (answer_at marks u) other w.1 refl)

-- ---- how much is done

-- a call that isn't made signals nothing
pub none_sent : (called : Called) (i : ℕ) → called ≡ nothing → called.signal ≡ Some i → ⊥
none_sent called i none is = let bad = sym (ap (λ (c : Called). c.signal) none) ∙ is in cc

module _ (c : Copying) (n i : ℕ) (least : Amounts) (sev : (done : Amounts) → IsSignal c.start c.program c.count i done → IsAtLeast least done) where
  -- if F, this is done
  abbrev Stores : Type 0 → Thread → Type 0
  Stores F th = F → DoneAt c.start c.program least th.channel.taken

  steps_stores : (F : Type 0) (k : Call) → Steps c n (Unit {0}) (Stores F) (Unit {0}) (Stores (F ⊎ (sent_by n k ≡ Some i))) k
  steps_stores F k = record {
    rests_over = λ none o. o;
    rests = λ off none th found g known why. elim why [ inl f ↦ known f | inr is ↦ absurd (none_sent (result_of n k).called i none is) ];
    ends = λ th g known sent ended. tt;
    goes = λ made th found g known sent goes why.
        let on = call_later c k.marks (from k th) (to k th) k.most (count_in k th) (last_answer k th) goes g.runs (steps_of k th) in
        let enough : DoneAt c.start c.program least (to k th).channel.taken = elim why [
          | inl f ↦ later c.start c.program least th.channel.taken (to k th).channel.taken on (known f)
          | inr is ↦ sev (done_at c.start c.program (to k th))
              (signalled c.start c.program c.work c.count k.marks c.first c.explains c.fits (from k th) (to k th) k.most (count_in k th) (last_answer k th) i
              g.runs (steps_of k th) (sym sent ∙ is))
        ] in
        subst (λ (v : ChannelValue). DoneAt c.start c.program least v.taken) (sym (channel_after k th)) enough;
  }

-- ---- what is copied

-- a memory in which at least so much is done
are_done : (c : Copying) (image : List ℕ) (least done : Amounts) → IsPart c.work c.first done image
    → ((p : ℕ) → p < least.copied → p < size_of c.work.copy → p < done.copied) → ((p : ℕ) → p < least.cleared → p < length (cleared c.work) → p < done.cleared)
    → AreDone c.work least c.first image
are_done c image least done part copied zeros =
    let w = part_first c.work c.first done image c.explains.work c.fits part in
    let ds = destinations c.work.copy in
    let zs = cleared c.work in
    record {
      copied = λ p few within. w.copied p (copied p few within) within;
      zeros = λ p few within. w.zeros p (zeros p few within) within;
      kept = λ a i.
          w.kept a (inl (inl i)) (λ j. c.explains.work.apart a i (Contains-append_left ds zs a (Contains_take done.copied ds a j)))
          (λ j. c.explains.work.apart a i (Contains-append_right ds zs a (Contains_take done.cleared zs a j)));
    }

-- all is done in the memory of a thread whose program has ended, and in that of one that goes on what it has done
pub stands_done : (c : Copying) (image : List ℕ) (least : Amounts) (th : Thread)
    → Stands c (Unit {0}) (λ (t : Thread). DoneAt c.start c.program least t.channel.taken) image th → AreDone c.work least c.first image
stands_done c image least th (inl over) =
    are_done c image least (all_of c.work) (worked_part c.work c.first image over.0.done) (λ p few within. within) (λ p few within. within)
stands_done c image least th (inr going) =
    let u = machine th.channel image [] in
    let so = runs_so c.start c.program c.work c.count c.first c.explains u going.0.runs in
    let enough = going.1 in
    are_done c image least (done_at c.start c.program u) so.part (λ p few within. omega (arith, few, enough.copied))
    (λ p few within. omega (arith, few, enough.cleared))

-- ---- without a failure

module _ (c : Copying) (n : ℕ) where
  -- the device has the events of the program
  pub record Knows (d : DeviceValue) : Type 0 where
    pub waits : (e : ℕ) → IsWait c.start c.program c.count e → e < d.config.events
    pub signals : (e : ℕ) (done : Amounts) → IsSignal c.start c.program c.count e done → e < d.config.events

  -- no burst of the program meets one of these marks, and the device has its events
  pub record Fit (d : DeviceValue) (marks : MarkList) : Type 0 where
    pub misses : MissesAll marks c.work
    pub knows : Knows d

  -- and so it is after a call
  pub fit_kept : (d : DeviceValue) (regions : List Region) (most : ℕ) → Fit d (marks_in regions)
      → Fit (first_in d regions n most).left.device (marks_in regions)
  fit_kept d regions most fit =
      let config = if_config (begins d n most) (marks_in regions) n most (setup_of d regions) in
      record {
        misses = fit.misses;
        knows = record {
          waits = λ i w. subst (λ (g : Config). i < g.events) (sym config) (fit.knows.waits i w);
          signals = λ i done w. subst (λ (g : Config). i < g.events) (sym config) (fit.knows.signals i done w);
        };
      }

  pub call_fine : (k : Call) (th : Thread) → 0 < k.most → Fit k.before.device k.marks → Going c k.before.image th → is_faulting (after_steps_of k th) ≡ false
  call_fine k th some fit g =
      let s = from k th in
      let v = to k th in
      let count = count_in k th in
      let last = last_answer k th in
      let steps = steps_of k th in
      answer_fine k.before.device.config.events (at_answer k th) last (sets k th)
      (call_answers c.start c.program c.work c.count k.marks c.first c.explains c.fits s v k.most count last some g.runs steps)
      (λ kind. call_fails c.start c.program c.work c.count k.marks c.first c.explains c.fits s v k.most count last kind fit.misses g.runs steps)
      (λ e is. fit.knows.waits e (call_waits c.start c.program c.work c.count k.marks c.first c.explains c.fits s v k.most count e last g.runs steps is))
      (λ e is. fit.knows.signals e (done_at c.start c.program v)
      (signalled c.start c.program c.work c.count k.marks c.first c.explains c.fits s v k.most count last e g.runs steps is))

  abbrev pub Fine : Thread → Type 0
  Fine th = is_faulting th ≡ false

  steps_fine : (k : Call) → (k.made ≡ true → 0 < k.most) → Fit k.before.device k.marks → Steps c n (Unit {0}) Fine (Unit {0}) Fine k
  steps_fine k some fit = record {
    rests_over = λ none o. o;
    rests = λ off none th found g fine. fine;
    ends = λ th g fine sent ended. tt;
    goes = λ made th found g fine sent goes. call_fine k th (some made) fit g;
  }

-- ---- along the turns

module _ (x : Drive) where
  open x use {run, go.{channel as n}}

  abbrev c : Copying
  c = copying x

  -- a turn in which line i rose signals its event
  pub rises_by : (i j : ℕ) → j < run.count → Rises run i j → (sent_by n (one_at x j) ≡ Some i) ⊎ (sent_by n (two_at x j) ≡ Some i)
  rises_by i j less rises =
      let t = x.copies.takes j less in
      elim ((turn_raises (run.before j) (run.after j) (run.lent j) (run.left j) n (run.most j) i t.0 t.1 rises.line).0 rises.high) [
        | inl before ↦ absurd (rises.low before)
        | inr new ↦ new.1
      ]

  -- line i rose in a turn before number j
  record Rose (i j : ℕ) : Type 0 where
    turn : ℕ
    early : turn < j
    rises : Rises run i turn

  module _ (i : ℕ) (least : Amounts) (sev : (done : Amounts) → IsSignal c.start c.program c.count i done → IsAtLeast least done) where
    -- if line i rose, this is done
    abbrev IsStored : ℕ → Thread → Type 0
    IsStored j = Stores c n i least sev (Rose i j)

    -- a line that a turn raises is that of the event that one of its calls signals
    raised_by : (j : ℕ) → j < run.count → Rose i (suc j) → (Rose i j ⊎ (sent_by n (one_at x j) ≡ Some i)) ⊎ (sent_by n (two_at x j) ≡ Some i)
    raised_by j less rose = elim (cases_eq rose.turn j) [
      | inr other ↦ (let early = rose.early in inl (inl (record { turn = rose.turn; early = omega (arith, other, early); rises = rose.rises })))
      | inl same ↦ elim (rises_by i j less (subst (Rises run i) same rose.rises)) [ inl is ↦ inl (inr is) | inr is ↦ inr is ]
    ]

    none_rose : IsStored 0 (new x)
    none_rose none = let early = none.early in absurd (omega (arith, early))

    stored_along : (j : ℕ) → j < run.count → After x (Unit {0}) (IsStored (suc j)) j
    stored_along = along x (λ j. Unit {0}) IsStored none_rose (λ j less g.
        let w = turned x j less (steps_stores c n i least sev (Rose i j) (one_at x j))
        (steps_stores c n i least sev (Rose i j ⊎ (sent_by n (one_at x j) ≡ Some i)) (two_at x j)) g in
        weaker x j (λ o. o) (λ th going known rose. known (raised_by j less rose)) w)

    first_copied : (k : ℕ) → k < run.count → HasRisen run i k → AreDone x.work least c.first (image_in (run.left k))
    first_copied k less risen =
        let early = risen.early in
        let rose : Rose i (suc k) = record { turn = risen.turn; early = omega (arith, early); rises = risen.rises } in
        let g = weaker x k (λ o. o) (λ th going known. known rose) (stored_along k less) in
        stands_done c (image_in (run.left k)) least g.thread g.holds

  -- once the thread is stopped it has ended
  copied : (k : ℕ) → k < run.count → csr_status (run.after k) n ≡ 0 → IsWorked x.work c.first (image_in (run.left k))
  copied k less stopped =
      let g = stored_along 0 (record { copied = 0; cleared = 0 }) (λ done w. record { copied = omega arith; cleared = omega arith }) k less in
      elim g.holds [
        | inl over ↦ over.0.done
        | inr going ↦ absurd (true≢false (sym (reads_stopped (run.after k) n g.thread x.copies.may_go.few g.is stopped) ∙ going.0.busy))
      ]

  pub fits_all : (k : ℕ) → IsFit x.go x.work x.count (run.before k) (run.lent k) → Fit c n (run.before k) (marks_in (run.lent k))
  fits_all k fit =
      let none : MissesAll [] x.work = record { copy = record { reads = λ a i. refl; writes = λ a i. refl }; zeros = λ a i. refl } in
      record {
        misses = gaps_miss (run.lent k) [] x.work fit.order fit.have none;
        knows = record { waits = fit.events.waits; signals = fit.events.signals };
      }

  pub turn_fine : ((k : ℕ) → k < run.count → IsFit x.go x.work x.count (run.before k) (run.lent k)) → (j : ℕ) → j < run.count
      → Before x (Unit {0}) (Fine c n) j → After x (Unit {0}) (Fine c n) j
  turn_fine fit j less g =
      let fits = fits_all j (fit j less) in
      turned x j less
      (steps_fine c n (one_at x j) (λ made. ltb-true 0 (run.most j) (and_parts (nat_lt 0 (run.most j)) (runs_at (run.before j) n) made).0) fits)
      (steps_fine c n (two_at x j) (λ made. omega arith) (fit_kept c n (run.before j) (run.lent j) (run.most j) fits)) g

  never_fails : ((k : ℕ) → k < run.count → IsFit x.go x.work x.count (run.before k) (run.lent k)) → (k : ℕ) → k < run.count
      → csr_status (run.after k) n ≢ 15
  never_fails fit k less =
      let g = along x (λ j. Unit {0}) (λ j. Fine c n) refl (turn_fine fit) k less in
      reads_fine (run.after k) n g.thread x.copies.may_go.few g.is (elim g.holds [
        | inl over ↦ stopped_fine g.thread.status over.0.stopped
        | inr going ↦ going.1
      ])

pub dmago_copies : DmagoCopies
dmago_copies go work n run h k less stopped = copied (drive go work n run h k less) k less stopped

pub dmago_interrupts : DmagoInterrupts
dmago_interrupts go work n run i least h sev k less risen = first_copied (drive go work n run h k less) i least sev k less risen

pub dmago_never_fails : DmagoNeverFails
dmago_never_fails go work n run h fit k less = never_fails (drive go work n run h k less) fit k less
