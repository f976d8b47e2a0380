-- After a turn that executes a DMASEV of a program that copies, and while it waits, exactly what the program does
-- before the DMASEV or DMAWFE is done.
use Rattle.std.proofs.Common.{◌≡◌, ◌≢◌, ◌∙◌, ◌⊎◌, ℕ, zero, suc, ◌<◌, ◌≤◌, true, false, List, [], Option, Some, Result, Ok, ap, refl, sym, subst}
use Rattle.std.proofs.Common.{arith, inl, inr, true≢false, is_some}
use Rattle.std.specs.Prelude.{nat_lt, slice_get}
use Rattle.std.proofs.lemmas.Bool.{and_parts, cases_lt}
use Rattle.dma_insn.specs.declared.chip.ChipInsn.{ChipInsn}
use Rattle.dma_insn.specs.declared.chip.ChipInsn.TheVariants.{End, Sev, St, StoreZeros}
use Rattle.dma_mem.specs.Marking.{MarkList}
use Rattle.dma_chan.specs.Stepping.{Machine, TakesSteps, after_step, after_steps, answer_at, machine, signal_after}
use Rattle.dma_chan.specs.{Channel.ChannelValue, Channel.ahead_of, Exec.ChangesNothing, Exec.State, declared.turn.ChanTurn.ChanTurn, declared.turn.FaultKind.FaultKind}
use Rattle.dma_chan.specs.{declared.turn.ChanTurn.TheVariants.Ended, declared.turn.ChanTurn.TheVariants.Moved}
use Rattle.dma_chan.proofs.{CallWrites.does_next, SteppedOver.is_still, StepsTaken.steps_few}
use Rattle.dma_explain.specs.Explains.{IsSignal, Trace, after_insn, all_of, amounts_of, traced}
use Rattle.dma_explain.specs.{Changes.HasFirst, Changes.bytes_in, declared.explain.Amounts.Amounts}
use Rattle.dma_explain.proofs.CallStays.{Ends, Goes, Nexts, ahead_at, ends_then, nexts, traced_next}
use Rattle.dma_explain.proofs.CallsAmongOthers.{done_at, is_signal, moved_on, signalled}
use Rattle.dma_explain.proofs.SinceLoads.{all_done, part_first, runs_so, worked_part}
use Rattle.dma_explain.proofs.AmongOthers.{Among, goes_on_at}
use Rattle.dma_device.specs.Copies.{DmagoInterruptsExactly, DmagoSignalsExactly, IsDoneToSignal}
use Rattle.dma_device.specs.Dmago.{image_in}
use Rattle.dma_device.specs.Thread.{IsSound, has_status, is_store, is_stopped_status, waits_for}
use Rattle.dma_device.specs.Underway.{DmagoWaitsExactly, IsDoneToWait}
use Rattle.dma_device.specs.{CallSteps.first_in, Idle.IsSoundDevice, Interrupts.TurnSignals, declared.thread.Status.Status}
use Rattle.dma_device.specs.{declared.thread.Status.TheVariants.WaitingForEvent, declared.thread.Thread.Thread}
use Rattle.dma_device.proofs.Driven.{After, Before, Call, Copying, Drive, Going, RunsOn, Stands, Steps, along, before_each, channel_after, copying, count_in}
use Rattle.dma_device.proofs.Driven.{after_steps_of, drive, from, last_answer, one_at, result_of, sent_by, sets, steps_of, to, turned, two_at}
use Rattle.dma_device.proofs.{Calls.follows_storeless, Copies.none_sent, Copies.rises_by, Found.all_at, Underway.steps_plain, Waits.is_wfe}

-- ---- a step that is no store

insn_does_no_more : (i : ChipInsn) (x : Trace) → is_store (Ok i) ≡ false → amounts_of (after_insn i x) ≡ amounts_of x
insn_does_no_more St x off = absurd (true≢false off)
insn_does_no_more StoreZeros x off = absurd (true≢false off)
insn_does_no_more i x off = refl

module _ (c : Copying) (marks : MarkList) where
  -- what a machine's channel has done
  abbrev Done : Machine → Amounts
  Done u = done_at c.start c.program u

  abbrev At : ℕ → Machine → Type 0
  At j u = Among c.start c.program c.work c.count c.first j u.image u.channel

  moved_same : (j : ℕ) (u : Machine) → At j u → is_store (ahead_of u.channel) ≡ false → answer_at marks u ≡ Moved
      → Nexts c.start c.program c.work c.count j → Done (after_step marks u) ≡ Done u
  moved_same j u w off moved (Ends last next) =
      let over = ends_then marks u (ahead_at c.start c.program j End u.channel w.begins w.mirrors.registers_are next) in
      let bad : Ended ≡ Moved = sym over ∙ moved in
      absurd (cc)
  moved_same j u w off moved (Goes i less next go) =
      let ahead = ahead_at c.start c.program j i u.channel w.begins w.mirrors.registers_are next in
      let later = moved_on c.start c.program c.work c.count marks c.first c.explains c.fits j u w moved in
      let none = subst (λ (r : Result ChipInsn FaultKind). is_store r ≡ false) ahead off in
      ap (λ (k : ℕ). amounts_of (traced c.start c.program k)) later.taken
      ∙ ap amounts_of (traced_next c.start c.program c.work c.count c.explains j i next)
      ∙ insn_does_no_more i (traced c.start c.program j) none
      ∙ sym (ap (λ (k : ℕ). amounts_of (traced c.start c.program k)) w.taken)

  by_answer : (j : ℕ) (u : Machine) (turn : ChanTurn) → answer_at marks u ≡ turn → turn ≢ Ended → At j u → is_store (ahead_of u.channel) ≡ false
      → Done (after_step marks u) ≡ Done u
  by_answer j u Moved is goes w off = moved_same j u w off is (nexts c.start c.program c.work c.count c.explains j w.within)
  by_answer j u Ended is goes w off = absurd (goes refl)
  by_answer j u turn is goes w off = ap Done (is_still marks u (subst ChangesNothing (sym is) tt))

  -- a call of at most one step, which is no store and not the end
  one_does_no_more : (s v : Machine) (most taken : ℕ) (last : Option ChanTurn) → TakesSteps marks s most taken last v → taken ≤ 1 → RunsOn c s
      → is_store (ahead_of s.channel) ≡ false → last ≢ Some Ended → Done v ≡ Done s
  one_does_no_more s v most zero last x few r off goes = ap Done x.ends_at
  one_does_no_more s v most (suc zero) last x few r off goes =
      ap Done x.ends_at
      ∙ by_answer r.0 s (answer_at marks s) refl (λ over. goes (x.answer ∙ ap (λ (a : ChanTurn). Some a) over)) r.1 off
  one_does_no_more s v most (suc (suc k)) last x few r off goes = absurd (omega arith)

  -- where a program ends all is done
  at_end : (j : ℕ) (u : Machine) → At j u → answer_at marks u ≡ Ended → Done u ≡ all_of c.work
  at_end j u w ended = elim (cases_lt j c.count) [
    | inl less ↦ absurd (goes_on_at c.start c.program c.work c.count marks c.first c.explains c.fits j u Ended ended w less)
    | inr past ↦
        let all : u.channel.taken ≡ c.count = omega (arith, past, w.within, w.taken) in
        ap (λ (k : ℕ). amounts_of (traced c.start c.program k)) all ∙ all_done c.start c.program c.work c.count c.explains
  ]

  one_ends : (s v : Machine) (most taken : ℕ) (last : Option ChanTurn) → TakesSteps marks s most taken last v → taken ≤ 1 → RunsOn c s → last ≡ Some Ended
      → Done s ≡ all_of c.work
  one_ends s v most zero last x few r ended = absurd (let bad = sym x.answer ∙ ended in cc)
  one_ends s v most (suc zero) last x few r ended =
      let is : answer_at marks s ≡ Ended = let same = sym x.answer ∙ ended in cc in
      at_end r.0 s r.1 is
  one_ends s v most (suc (suc k)) last x few r ended = absurd (omega arith)

-- a call that signals moves
sent_moves : (marks : MarkList) (s v : Machine) (most taken e : ℕ) (last : Option ChanTurn) → TakesSteps marks s most taken last v
    → signal_after marks s taken ≡ Some e → last ≢ Some Ended
sent_moves marks s v most zero e last x signal ended = absurd (cc)
sent_moves marks s v most (suc p) e last x signal ended =
    let u = after_steps marks s p in
    let moves : answer_at marks u ≡ Moved = ap (λ (y : ChanTurn × State). y.0) (does_next marks (Sev e) u (is_signal (ahead_of u.channel) e signal)) in
    let both : Some Moved ≡ Some Ended = sym (ap (λ (a : ChanTurn). Some a) moves) ∙ sym x.answer ∙ ended in
    absurd (cc)

-- ---- a turn

module _ (c : Copying) (n i : ℕ) where
  -- this is what the program does before one of its DMASEVs of the event
  abbrev IsBefore : Amounts → Type 0
  IsBefore done = IsSignal c.start c.program c.count i done

  abbrev IsThere : Thread → Type 0
  IsThere th = IsBefore (amounts_of (traced c.start c.program th.channel.taken))

  abbrev Sends : Call → Type 0
  Sends k = sent_by n k ≡ Some i

  after_sent : (k : Call) (th : Thread) → Going c k.before.image th → sent_by n k ≡ sets k th → Sends k → IsBefore (done_at c.start c.program (to k th))
  after_sent k th g sent is =
      signalled c.start c.program c.work c.count k.marks c.first c.explains c.fits (from k th) (to k th) k.most (count_in k th) (last_answer k th) i
      g.runs (steps_of k th) (sym sent ∙ is)

  left_there : (k : Call) (th : Thread) → IsBefore (done_at c.start c.program (to k th)) → IsThere (after_steps_of k th)
  left_there k th is =
      subst (λ (v : ChannelValue). IsBefore (amounts_of (traced c.start c.program v.taken))) (sym (channel_after k th)) is

  -- the first call
  one_sends : (k : Call) → Steps c n (Unit {0}) (λ th. Unit {0}) (¬ Sends k) (λ th. Sends k → IsThere th) k
  one_sends k = record {
    rests_over = λ none o is. none_sent (result_of n k).called i none is;
    rests = λ off none th found g known is. absurd (none_sent (result_of n k).called i none is);
    ends = λ th g known sent ended is.
        sent_moves k.marks (from k th) (to k th) k.most (count_in k th) i (last_answer k th) (steps_of k th) (sym sent ∙ is) ended;
    goes = λ made th found g known sent goes is. left_there k th (after_sent k th g sent is);
  }

  -- the second one, which follows if F
  two_sends : (F : Type 0) (k : Call) → k.most ≡ 1
      → (k.made ≡ true → (th : Thread) → slice_get k.before.device.threads n ≡ Some th → is_store (ahead_of th.channel) ≡ false)
      → Steps c n (¬ F) (λ th. F → IsThere th) (F ⊎ Sends k → IsBefore (all_of c.work)) (λ th. F ⊎ Sends k → IsThere th) k
  two_sends F k one storeless =
      let few : (th : Thread) → count_in k th ≤ 1 = λ th. omega (arith, one, steps_few (steps_of k th)) in
      record {
        rests_over = λ none o why. elim why [ inl f ↦ absurd (o f) | inr is ↦ absurd (none_sent (result_of n k).called i none is) ];
        rests = λ off none th found g known why. elim why [ inl f ↦ known f | inr is ↦ absurd (none_sent (result_of n k).called i none is) ];
        ends = λ th g known sent ended why. elim why [
          | inl f ↦
              let all = one_ends c k.marks (from k th) (to k th) k.most (count_in k th) (last_answer k th) (steps_of k th) (few th) g.runs ended in
              subst IsBefore all (known f)
          | inr is ↦
              absurd (sent_moves k.marks (from k th) (to k th) k.most (count_in k th) i (last_answer k th) (steps_of k th) (sym sent ∙ is) ended)
        ];
        goes = λ made th found g known sent goes why. elim why [
          | inl f ↦
              let same = one_does_no_more c k.marks (from k th) (to k th) k.most (count_in k th) (last_answer k th) (steps_of k th) (few th) g.runs
              (storeless made th found) goes in
              left_there k th (subst IsBefore (sym same) (known f))
          | inr is ↦ left_there k th (after_sent k th g sent is)
        ];
      }

-- ---- along the turns

module _ (x : Drive) where
  open x use {run, go.{channel as n}}

  abbrev c : Copying
  c = copying x

  plain : (j : ℕ) → j < run.count → Before x (Unit {0}) (λ th. Unit {0}) j → After x (Unit {0}) (λ th. Unit {0}) j
  plain j less = turned x j less (steps_plain c n (one_at x j)) (steps_plain c n (two_at x j))

  module _ (i k : ℕ) (less : k < run.count) (sends : TurnSignals (run.before k) (run.lent k) n (run.most k) i) where
    abbrev Sent : Type 0
    Sent = Sends c n i (one_at x k) ⊎ Sends c n i (two_at x k)

    abbrev Ready : List ℕ → Thread → Type 0
    Ready = Stands c (Sent → IsBefore c n i (all_of c.work)) (λ th. Sent → IsThere c n i th)

    done_exactly : (image : List ℕ) (th : Thread) → Ready image th → IsDoneToSignal x.go x.work x.count i c.first image
    done_exactly image th (inl over) = record {
      done = all_of x.work;
      signal = over.1 sends;
      bytes = part_first x.work c.first (all_of x.work) image c.explains.work c.fits (worked_part x.work c.first image over.0.done);
    }
    done_exactly image th (inr going) =
        let u = machine th.channel image [] in
        let so = runs_so c.start c.program x.work x.count c.first c.explains u going.0.runs in
        record {
          done = done_at c.start c.program u;
          signal = going.1 sends;
          bytes = part_first x.work c.first (done_at c.start c.program u) image c.explains.work c.fits so.part;
        }

    signals_exactly : IsDoneToSignal x.go x.work x.count i c.first (image_in (run.left k))
    signals_exactly =
        let first = first_in (run.before k) (run.lent k) n (run.most k) in
        let before = before_each x (λ j. Unit {0}) (λ j th. Unit {0}) tt plain k less in
        let g = turned x k less (one_sends c n i (one_at x k))
        (two_sends c n i (Sends c n i (one_at x k)) (two_at x k) refl (λ made th found. follows_storeless first.left.device n first.called th made found))
        before in
        done_exactly (image_in (run.left k)) g.thread g.holds

  -- ---- a wait

  module _ (e : ℕ) (image : List ℕ) (th : Thread) (waits : waits_for e (ahead_of th.channel) ≡ true) where
    waits_exactly : (j : ℕ) → Among c.start c.program c.work c.count c.first j image th.channel → Nexts c.start c.program c.work c.count j
        → IsDoneToWait x.go x.work x.count e c.first image
    waits_exactly j w (Ends last next) =
        let ahead = ahead_at c.start c.program j End th.channel w.begins w.mirrors.registers_are next in
        absurd (true≢false (sym waits ∙ ap (waits_for e) ahead))
    waits_exactly j w (Goes insn less next go) =
        let ahead = ahead_at c.start c.program j insn th.channel w.begins w.mirrors.registers_are next in
        let wfe = is_wfe (ahead_of th.channel) e waits in
        let u = machine th.channel image [] in
        let so = runs_so c.start c.program x.work x.count c.first c.explains u (j, w) in
        let part = part_first x.work c.first (done_at c.start c.program u) image c.explains.work c.fits so.part in
        record {
          wait = record { step = j; within = less; invalid = wfe.0; waits = next ∙ sym ahead ∙ wfe.1 };
          bytes = subst (λ (k : ℕ). HasFirst x.work (amounts_of (traced c.start c.program k)) (bytes_in c.first) (bytes_in image)) w.taken part;
        }

  waits_after : (k e : ℕ) (th : Thread) → k < run.count → IsSoundDevice (run.after k) → slice_get (run.after k).threads n ≡ Some th
      → th.status ≡ WaitingForEvent e → IsDoneToWait x.go x.work x.count e c.first (image_in (run.left k))
  waits_after k e th less sound found is =
      let image = image_in (run.left k) in
      let g = along x (λ j. Unit {0}) (λ j th. Unit {0}) tt plain k less in
      let same : g.thread ≡ th = let here = g.is in cc in
      let stands = subst (λ (t : Thread). Stands c (Unit {0}) (λ t. Unit {0}) image t) same g.holds in
      let events = (run.after k).config.events in
      let status : has_status events th (WaitingForEvent e) ≡ true = subst (λ (s : Status). has_status events th s ≡ true) is
      (all_at (IsSound events) (run.after k).threads n th sound.threads found).status in
      let known = (and_parts (is_some th.channel.program) _ status).1 in
      let before = (and_parts (nat_lt e events) _ known).1 in
      let waits = (and_parts (waits_for e (ahead_of th.channel)) _ before).0 in
      elim stands [
        | inl over ↦ absurd (true≢false (sym over.0.stopped ∙ ap is_stopped_status is))
        | inr going ↦
            let r = going.0.runs in
            waits_exactly e image th waits r.0 r.1 (nexts c.start c.program c.work c.count c.explains r.0 r.1.within)
      ]

pub dmago_signals_exactly : DmagoSignalsExactly
dmago_signals_exactly go work n run i k h less sends = signals_exactly (drive go work n run h k less) i k less sends

pub dmago_interrupts_exactly : DmagoInterruptsExactly
dmago_interrupts_exactly go work n run i k h less rises =
    dmago_signals_exactly go work n run i k h less (rises_by (drive go work n run h k less) i k less rises)

pub dmago_waits_exactly : DmagoWaitsExactly
dmago_waits_exactly go work n run k e th h less sound found is = waits_after (drive go work n run h k less) k e th less sound found is
