-- A program that copies, and that a DMAGO starts, finishes.
use Rattle.std.proofs.Common.{◌≡◌, ◌≢◌, ◌∙◌, ◌⊎◌, ℕ, zero, suc, ◌+◌, ◌-◌, ◌*◌, ◌%◌, ◌^◌, ◌<◌, ◌≤◌, Bool, true, false, ◌&&◌, List, get_or, Option, Some}
use Rattle.std.proofs.Common.{Ok, ap, refl, sym, subst, arith, inl, inr, true≢false}
use Rattle.std.specs.{Prelude.IfSome, Prelude.IsSomeAnd, Prelude.is_some, Prelude.nat_lt, Prelude.slice_get, Int.bit_at}
use Rattle.std.proofs.{lemmas.Bool.and_parts, lemmas.Bool.cases_eq, lemmas.Bool.lt-ltb, lemmas.Nat.Bits.bit_at-lt}
use Rattle.dma_insn.specs.{ControlWord.flag, declared.chip.ChipInsn.ChipInsn, declared.chip.ChipInsn.TheVariants.End, declared.chip.ChipInsn.TheVariants.Wfe}
use Rattle.dma_mem.specs.{Flags.flags_of, Marking.MarkList, Places.Descriptor}
use Rattle.dma_chan.specs.Channel.{ChannelValue, ahead_of}
use Rattle.dma_chan.specs.Stepping.{Machine, TakesSteps, after_step, after_steps, answer_at, goes_on_after}
use Rattle.dma_chan.specs.declared.turn.ChanTurn.TheVariants.{Moved, Waiting, Ended, Fault}
use Rattle.dma_chan.specs.{declared.exec.Registers.Registers, Exec.ChangesNothing, Programs.ProgramValue, declared.turn.ChanTurn.ChanTurn}
use Rattle.dma_explain.specs.Works.{MissesAll}
use Rattle.dma_explain.proofs.CallsAmongOthers.{call_answers, call_fails, many, next_ahead}
use Rattle.dma_explain.proofs.{AmongOthers.is_in, CompiledExplained.compiled_events}
use Rattle.dma_chan.proofs.{RunAlone.moved_count, StepsTaken.steps_move, SteppedOver.is_still, SteppedOver.was_moved, SteppedOver.went_before}
use Rattle.dma_device.specs.Dmago.{Go, csr_status, start_of}
use Rattle.dma_device.specs.Progress.{CompiledGoesOn, CompiledHasEvents, CompiledSignals, DmagoFinishes, ReadyTurns, IsCompiled, MayPass, compiled_count}
use Rattle.dma_device.specs.{CallSteps.StepsThread, Device.DeviceValue, Device.csr, Device.of_thread, Copies.IsFit, Events.IsVisible}
use Rattle.dma_device.specs.{Thread.is_faulting, Thread.is_stopped, Thread.is_stopped_status, Thread.status_bits, Turns.runs_at}
use Rattle.dma_device.specs.{Turns.visible_events, declared.thread.Status.Status}
use Rattle.dma_device.specs.{declared.thread.Thread.Thread}
use Rattle.dma_device.proofs.Copies.{Fit, call_fine, fit_kept, fits_all}
use Rattle.dma_device.proofs.Driven.{After, Before, Call, Copying, Drive, Going, RunsOn, Steps, along, channel_after, copying, count_in, drive, from, last_answer}
use Rattle.dma_device.proofs.Driven.{one_at, steps_of, to, turned, two_at, weaker}
use Rattle.dma_device.proofs.{Events.flag_of_bit, FlagSteps.waits_at, Starts.read_csr, Interrupts.seen_bit}
use borrow.Author.Tests.{ltb-true}
use Rattle.dma_explain.specs.Explains.{Explains, UsesEventsOf, IsIn, IsWait, StartsWith, Work, next_in, traced}

-- ---- a call of a channel with a program that copies

-- what a program executes before its DMAEND
pub before_end : (start : Registers) (program : List ℕ) (work : Work) (n : ℕ) → Explains start program work n → (k : ℕ) (i : ChipInsn) → k ≤ n → i ≢ End
    → next_in program (traced start program k) ≡ Ok i → k < n
before_end start program work n h k i within other next = grind arith

-- the next instruction of a channel that is at a DMAWFE
abbrev pub wait_ahead : (c : Copying) (marks : MarkList) (s : Machine) (r : RunsOn c s) (e : ℕ) (v : Bool) → ahead_of s.channel ≡ Ok (Wfe e v)
    → IsWait c.start c.program c.count e
wait_ahead c marks s r e v ahead =
    let at = next_in c.program (traced c.start c.program r.0) in
    let next = sym (next_ahead c.start c.program c.work c.count marks c.first c.explains c.fits r.0 s at r.1 refl) ∙ ahead in
    record {
      step = r.0;
      within = before_end c.start c.program c.work c.count c.explains r.0 (Wfe e v) r.1.within (λ bad. cc) next;
      invalid = v;
      waits = next;
    }

module _ (marks : MarkList) where
  pub step_count : (u : Machine) → answer_at marks u ≡ Moved → (after_step marks u).channel.taken ≡ u.channel.taken + 1
  step_count u moved = grind (arith, moved_count)

  pub went_moved : (s : Machine) (j : ℕ) → goes_on_after marks s (suc j) ≡ true → answer_at marks (after_steps marks s j) ≡ Moved
  went_moved s j goes = was_moved (ahead_of (after_steps marks s j).channel) (answer_at marks (after_steps marks s j)) (went_before marks s (suc j) goes)

  -- each step that others follow counts
  many_count : (s : Machine) (j : ℕ) → ((k : ℕ) → k < suc j → goes_on_after marks s k ≡ true) → (after_steps marks s j).channel.taken ≡ s.channel.taken + j
  many_count s zero moves = omega arith
  many_count s (suc j) moves =
      omega (arith, many_count s j (λ k l. moves k (omega arith)), step_count (after_steps marks s j) (went_moved s j (moves (suc j) (omega arith))))

module _ (c : Copying) (marks : MarkList) (s v : Machine) (most : ℕ) (last : Option ChanTurn) (least more : ℕ) (r : RunsOn c s) (few : least ≤ s.channel.taken)
  where
    -- a call needs no progress, or its first instruction doesn't wait
    abbrev Sees : Type 0
    Sees = (more ≤ least)
        ⊎ ((more ≤ least + 1) × ((e : ℕ) → (w : IsWait c.start c.program c.count e) → w.step ≡ r.0 → get_or s.flags e false ≡ true))

    -- one that may take a step then ends the program or counts one, if no mark is met
    progress : (taken : ℕ) → 0 < most → MissesAll marks c.work → Sees → TakesSteps marks s most taken last v → (last ≡ Some Ended) ⊎ (more ≤ v.channel.taken)
    progress zero some misses awake x =
        absurd (call_answers c.start c.program c.work c.count marks c.first c.explains c.fits s v most zero last some r x x.answer)
    progress (suc p) some misses awake x = by p (answer_at marks (after_steps marks s p)) refl x
      where
        still : (p : ℕ) (a : ChanTurn) → answer_at marks (after_steps marks s p) ≡ a → ChangesNothing a → TakesSteps marks s most (suc p) last v
            → v.channel.taken ≡ s.channel.taken + p
        still p a is nothing x =
            let same = ap (λ (m : Machine). m.channel.taken) (x.ends_at ∙ is_still marks (after_steps marks s p) (subst ChangesNothing (sym is) nothing)) in
            same ∙ many_count marks s p (steps_move x)

        awakes : (e : ℕ) → ((e : ℕ) → (w : IsWait c.start c.program c.count e) → w.step ≡ r.0 → get_or s.flags e false ≡ true)
            → answer_at marks s ≡ Waiting e → ⊥
        awakes e awake is =
            let w = waits_at marks s e is in
            let wait = wait_ahead c marks s r e w.0 w.1.0 in
            true≢false (sym (awake e wait refl) ∙ w.1.1)

        waits : (p e : ℕ) → answer_at marks (after_steps marks s p) ≡ Waiting e → TakesSteps marks s most (suc p) last v → Sees → more ≤ v.channel.taken
        waits p e is x (inl fewer) = let same = still p (Waiting e) is tt x in omega (arith, same, fewer, few)
        waits zero e is x (inr w) = absurd (awakes e w.1 is)
        waits (suc p) e is x (inr w) = let same = still (suc p) (Waiting e) is tt x in omega (arith, same, few, w.0)

        bound : Sees → more ≤ least + 1
        bound (inl fewer) = omega (arith, fewer)
        bound (inr w) = w.0

        counted : (p : ℕ) → TakesSteps marks s most (suc p) last v → answer_at marks (after_steps marks s p) ≡ Moved → more ≤ v.channel.taken
        counted p x moved =
            let end = ap (λ (m : Machine). m.channel.taken) x.ends_at in
            omega (arith, many_count marks s p (steps_move x), step_count marks (after_steps marks s p) moved, end, few, bound awake)

        by : (p : ℕ) (turn : ChanTurn) → answer_at marks (after_steps marks s p) ≡ turn → TakesSteps marks s most (suc p) last v → (last ≡ Some Ended)
            ⊎ (more ≤ v.channel.taken)
        by p Moved e x = inr (counted p x e)
        by p Ended e x = inl (x.answer ∙ ap (λ (a : ChanTurn). Some a) e)
        by p (Waiting k) e x = inr (waits p k e x awake)
        by p (Fault kind) e x = absurd
            (call_fails c.start c.program c.work c.count marks c.first c.explains c.fits s v most (suc p) last kind misses r x
            (x.answer ∙ ap (λ (a : ChanTurn). Some a) e))

-- ---- that it finishes

loaded : (program : List ℕ) (o : Option ProgramValue) → IsSomeAnd o (λ p. StartsWith p program) → is_some o ≡ true
loaded program o h = grind (arith)

module _ (c : Copying) (n : ℕ) where
  -- it isn't faulting, and has executed at least this many instructions
  pub record Reached (least : ℕ) (th : Thread) : Type 0 where
    pub fine : is_faulting th ≡ false
    pub enough : least ≤ th.channel.taken

  -- the event for which it waits is visible
  abbrev pub Awake : DeviceValue → ℕ → Type 0
  Awake d least = (th : Thread) (e : ℕ) (wait : IsWait c.start c.program c.count e) → slice_get d.threads n ≡ Some th
      → IsIn c.start c.program c.count wait.step th.channel → least ≤ wait.step → get_or (flags_of (visible_events d)) e false ≡ true

  -- a call needs no progress, or it doesn't wait at first
  abbrev CanStep : DeviceValue → ℕ → ℕ → Type 0
  CanStep d least more = (more ≤ least) ⊎ ((more ≤ least + 1) × Awake d least)

  -- a thread that goes on and isn't faulting runs
  pub going_runs : (d : DeviceValue) (image : List ℕ) (th : Thread) → slice_get d.threads n ≡ Some th → Going c image th → is_faulting th ≡ false
      → runs_at d n ≡ true
  going_runs d image th is g fine = grind (arith, loaded)

  steps_reached : (least more : ℕ) (k : Call)
      → ((th : Thread) → slice_get k.before.device.threads n ≡ Some th → ¬ StepsThread k.made n k.before → runs_at k.before.device n ≡ true → more ≤ least)
      → (k.made ≡ true → 0 < k.most) → Fit c n k.before.device k.marks → CanStep k.before.device least more
      → Steps c n (Unit {0}) (Reached least) (Unit {0}) (Reached more) k
  steps_reached least more k off some fit can = record {
    rests_over = λ none o. o;
    rests = λ not_made none th found g known.
        let few = off th found not_made (going_runs k.before.device k.before.image th found g known.fine) in
        let enough = known.enough in
        record { fine = known.fine; enough = omega (arith, few, enough) };
    ends = λ th g known sent ended. tt;
    goes = λ made th found g known sent goes.
        let count_is : th.channel.taken ≡ g.runs.0 = g.runs.1.taken in
        let long = known.enough in
        let sees : Sees c k.marks (from k th) (to k th) k.most (last_answer k th) least more g.runs long = elim can [
          | inl fewer ↦ inl fewer
          | inr w ↦ inr (
            w.0,
            λ e wait is. w.1 th e wait found
                (subst (λ (j : ℕ). IsIn c.start c.program c.count j th.channel) (sym is)
                (is_in c.start c.program c.work c.count c.first g.runs.0 k.before.image th.channel g.runs.1)) (omega (arith, count_is, long, is)),
          )
        ] in
        record {
          fine = call_fine c n k th (some made) fit g;
          enough = elim (progress c k.marks (from k th) (to k th) k.most (last_answer k th) least more g.runs long (count_in k th) (some made) fit.misses sees
              (steps_of k th)) [
                | inl ended ↦ absurd (goes ended)
                | inr many ↦ omega (arith, ap (λ (v : ChannelValue). v.taken) (channel_after k th), many)
              ];
        };
  }

  -- a turn needs to keep what is counted, or is ready to count one more
  abbrev pub IsTurn : DeviceValue → ℕ → ℕ → ℕ → Type 0
  IsTurn d most least more = (more ≤ least) ⊎ ((0 < most) × ((more ≤ least + 1) × Awake d least))

-- ---- CSR

stopped_reads : (s : Status) (b : Bool) → is_stopped_status s ≡ true → (status_bits s + flag b * 2 ^ 21) % 16 ≡ 0
stopped_reads s b h = grind (arith)

pub csr_stopped : (d : DeviceValue) (n : ℕ) (th : Thread) → n < 8 → slice_get d.threads n ≡ Some th → is_stopped th ≡ true → csr_status d n ≡ 0
csr_stopped d n th few is stopped = ap (λ (m : ℕ). m % 16) (read_csr d n few ∙ ap (of_thread csr) is) ∙ stopped_reads th.status th.nonsecure stopped

-- ---- along the turns

-- channels see a visible event
pub visible_bit : (d : DeviceValue) (e : ℕ) → IsVisible d e → bit_at (visible_events d) e ≡ 1
visible_bit d e see = grind (arith, bit_at-lt, seen_bit)

-- it isn't faulting, and is early enough before turn number k by how many instructions it has executed
pub record Ahead (Early : ℕ → ℕ → Type 0) (k : ℕ) (th : Thread) : Type 0 where
  pub fine : is_faulting th ≡ false
  pub ahead : Early k th.channel.taken

module _ (x : Drive) where
  open x use {run, go.{channel as n}}

  abbrev c : Copying
  c = copying x

  -- a thread that goes on has executed no more than the program has before its DMAEND
  pub within_count : {image : List ℕ} {th : Thread} → Going c image th → th.channel.taken ≤ x.count
  within_count {th = th} g = grind arith

  awake : (j least : ℕ) → MayPass x.go x.count (run.before j) least → Awake c n (run.before j) least
  awake j least may th e wait is in_program long = grind (arith, flag_of_bit, visible_bit)

  -- turn number j leads from at least `least` instructions to at least `more`, and these are early enough after it
  pub record Counts (Early : ℕ → ℕ → Type 0) (j : ℕ) : Type 0 where
    pub least : ℕ
    pub more : ℕ
    pub can : IsTurn c n (run.before j) (run.most j) least more
    pub reached : Before x (Unit {0}) (Reached c n least) j
    pub ahead : (taken : ℕ) → more ≤ taken → taken ≤ x.count → Early (suc j) taken

  -- along the turns it is early enough
  module _ (Early : ℕ → ℕ → Type 0) (fit : (k : ℕ) → k < run.count → IsFit x.go x.work x.count (run.before k) (run.lent k)) where
    counted : (j : ℕ) → j < run.count → Counts Early j → After x (Unit {0}) (Ahead Early (suc j)) j
    counted j less w =
        let d = run.before j in
        let most = run.most j in
        let one = one_at x j in
        let fits = fits_all x j (fit j less) in
        let off : (th : Thread) → slice_get d.threads n ≡ Some th → ¬ StepsThread one.made n one.before → runs_at d n ≡ true → w.more ≤ w.least =
        (λ th found none up. elim w.can [
          | inl fewer ↦ fewer
          | inr ready ↦
              let yes : one.made ≡ true = ap (λ (b : Bool). b && runs_at d n) (lt-ltb 0 most ready.0) ∙ up in
              absurd (none (record { on = yes; thread = th; found = found }))
        ]) in
        let steps : CanStep c n d w.least w.more = elim w.can [ inl fewer ↦ inl fewer | inr ready ↦ inr ready.1 ] in
        let after = turned x j less
        (steps_reached c n w.least w.more one off (λ made. ltb-true 0 most (and_parts (nat_lt 0 most) (runs_at d n) made).0) fits steps)
        (steps_reached c n w.more w.more (two_at x j) (λ th found none up. omega arith) (λ made. omega arith) (fit_kept c n d (run.lent j) most fits)
        (inl (omega arith))) w.reached in
        weaker x j (λ o. o) (λ th going known. record { fine = known.fine; ahead = w.ahead th.channel.taken known.enough (within_count going) }) after

    pub stays_ahead : ((j : ℕ) → j < run.count → Before x (Unit {0}) (Ahead Early j) j → Counts Early j) → ((taken : ℕ) → Early 0 taken)
        → (k : ℕ) → k < run.count → After x (Unit {0}) (Ahead Early (suc k)) k
    stays_ahead counts none =
        along x (λ j. Unit {0}) (Ahead Early) (record { fine = refl; ahead = none _ }) (λ j l g. counted j l (counts j l g))

  module _ (fit : (k : ℕ) → k < run.count → IsFit x.go x.work x.count (run.before k) (run.lent k)) (ready : ReadyTurns x.go x.count run) where
    rises : (a b : ℕ) → a + b ≤ x.count → ready.turn a ≤ ready.turn (a + b)
    rises a zero within = let e : a ≡ a + 0 = omega arith in subst (λ (m : ℕ). ready.turn a ≤ ready.turn m) e (omega arith)
    rises a (suc b) within = grind (arith, rises a b (omega (arith, within)))

    -- a turn before a ready one is before the later ready ones
    later_turn : (j a b : ℕ) → (a ≤ x.count → j < ready.turn a) → a ≤ b → b ≤ x.count → j < ready.turn b
    later_turn j a b early less within =
        let e : a + (b - a) ≡ b = omega (arith, less) in
        let later = subst (λ (m : ℕ). ready.turn a ≤ ready.turn m) e (rises a (b - a) (omega (arith, e, within))) in
        let here = early (omega (arith, less, within)) in
        omega (arith, here, later)

    -- it has executed an instruction for each ready turn before number k
    abbrev Early : ℕ → ℕ → Type 0
    Early k taken = k ≤ ready.turn taken

    counts : (j : ℕ) → Before x (Unit {0}) (Ahead Early j) j → Counts Early j
    counts j g = elim g.holds [
      | inl over ↦ record {
        least = suc x.count;
        more = suc x.count;
        can = inl (omega arith);
        reached = record { thread = g.thread; is = g.is; holds = inl over };
        ahead = λ t long within. absurd (omega (arith, long, within));
      }
      | inr going ↦
          let known = going.1 in
          let taken = g.thread.channel.taken in
          let reached : Before x (Unit {0}) (Reached c n taken) j = grind (arith) in
          let on = ready.ready taken (within_count going.0) in
          let early = known.ahead in
          elim (cases_eq (ready.turn taken) j) [
            | inl same ↦ record {
              least = taken;
              more = taken + 1;
              can = inr (
                subst (λ (k : ℕ). 0 < run.most k) same on.some,
                (omega arith, subst (λ (k : ℕ). Awake c n (run.before k) taken) same (awake (ready.turn taken) taken on.passes)),
              );
              reached = reached;
              ahead = λ t. later_turn j (taken + 1) t (λ few. (let next = ready.rising taken (omega (arith, few)) in omega (arith, same, next)));
            }
            | inr other ↦ record {
              least = taken;
              more = taken;
              can = inl (omega arith);
              reached = reached;
              ahead = λ t. later_turn j taken t (λ few. omega (arith, other, early));
            }
          ]
    ]

    finishes : (k : ℕ) → ready.turn x.count ≤ k → k < run.count → csr_status (run.after k) n ≡ 0
    finishes k long less =
        let g = stays_ahead Early fit (λ j l. counts j) (λ t. omega arith) k less in
        elim g.holds [
          | inl over ↦ csr_stopped (run.after k) n g.thread x.copies.may_go.few g.is over.0.stopped
          | inr going ↦
              let early = going.1.ahead in
              let last = later_turn k g.thread.channel.taken x.count (λ few. omega (arith, early)) (within_count going.0) (omega arith) in
              absurd (omega (arith, long, last))
        ]

pub dmago_finishes : DmagoFinishes
dmago_finishes go work n run h fit ready k long less = finishes (drive go work n run h k less) fit ready k long less

-- ---- compiled programs

events_of : (go : Go) (t : Descriptor) → IsCompiled go t → UsesEventsOf (start_of go) go.program t (compiled_count go t)
events_of go t is = subst (λ (bytes : List ℕ). UsesEventsOf (start_of go) bytes t (compiled_count go t)) (sym is.1) (compiled_events (start_of go) t is.0)

pub compiled_has_events : CompiledHasEvents
compiled_has_events go t d is wait signal =
    let all = events_of go t is in
    record {
      waits = λ e w. subst (λ (o : Option ℕ). IfSome o (λ i. i < d.config.events)) (all.waits e w).1 wait;
      signals = λ e done w. subst (λ (o : Option ℕ). IfSome o (λ i. i < d.config.events)) (all.signals e done w).0 signal;
    }

pub compiled_goes_on : CompiledGoesOn
compiled_goes_on go t before is begin k th e w found in_program long =
    let only = (events_of go t is).waits e w in
    let first : 0 ≡ k = omega (arith, only.0, long) in
    subst (λ (m : ℕ). IsVisible (before m) e) first (subst (λ (o : Option ℕ). IfSome o (IsVisible (before 0))) only.1 begin)

pub compiled_signals : CompiledSignals
compiled_signals = record {
  has_sev = λ go t i is signal. (events_of go t is).has_signal i signal;
  all_stored = λ go t i done is w. ((events_of go t is).signals i done w).1;
}
