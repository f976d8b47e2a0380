-- A program that a DMAGO starts and that the device refuses for a fault never ends, and fails so.
use Rattle.std.proofs.Common.{◌≡◌, ◌≢◌, ◌∙◌, ◌⊎◌, ℕ, zero, suc, ◌+◌, ◌-◌, ◌%◌, ◌^◌, ◌<◌, ◌≤◌, Bool, true, false, ◌&&◌, List, length, get_or, Option, Some}
use Rattle.std.proofs.Common.{None, ap, refl, sym, subst, arith, inl, inr, true≢false}
use Rattle.std.specs.{Prelude.IsSomeAnd, Prelude.nat_eq, Prelude.nat_lt, Prelude.slice_get, Option.option_map}
use Rattle.std.proofs.lemmas.Bool.{and_parts, false_from_ne_true, lt-ltb, or_parts, true_from_ne_false}
use Rattle.dma_insn.specs.ControlWord.{flag}
use Rattle.dma_mem.specs.{Places.end_of_addresses, Regions.pieces_of, declared.regions.Region.Region}
use Rattle.dma_mem.proofs.Pieces.{image_of_most}
use Rattle.dma_chan.specs.declared.turn.ChanTurn.TheVariants.{Moved, Waiting, Ended, Fault}
use Rattle.dma_chan.specs.{Channel.ChannelValue, Channel.ahead_of, Exec.begun, Exec.fault_bit, Stepping.Machine, Stepping.TakesSteps, Stepping.answer_at}
use Rattle.dma_chan.specs.{declared.exec.Registers.Registers, declared.turn.ChanTurn.ChanTurn, declared.turn.FaultKind.FaultKind}
use Rattle.dma_explain.specs.Explains.{Refuses, traced}
use Rattle.dma_explain.specs.declared.explain.Cause.TheVariants.{NoMemory, TooLong}
use Rattle.dma_explain.specs.{Refusals.fault_of_cause, declared.explain.Unexplained.Unexplained}
use Rattle.dma_chan.proofs.{StepsTaken.steps_move, SteppedOver.steps_size, SteppedOver.was_moved, SteppedOver.went_before}
use Rattle.dma_device.specs.Refused.{FailsAt, NeverPasses, RefusedFails, RunsRefused, executed}
use Rattle.dma_device.specs.Thread.{answer, is_faulting, is_stopped, reset_thread, runs, started}
use Rattle.dma_device.specs.Turns.{TakesTurn, runs_at, setup_of, visible_events}
use Rattle.dma_device.specs.{CallSteps.first_in, Copies.DeviceHasEvents, Device.DeviceValue, Device.of_thread, Device.program_at}
use Rattle.dma_device.specs.{Dmago.Go, Dmago.GivenTurns, Dmago.image_in, Dmago.start_of, Progress.is_vain, Progress.vain, Progress.waits_in_vain}
use Rattle.dma_device.specs.{declared.config.Config.Config, declared.device.turns.Turn.Turn, declared.thread.Thread.Thread}
use Rattle.dma_device.proofs.Calls.{begins_runs, follows_runs, if_config, runs_found}
use Rattle.dma_device.proofs.Driven.{Call, Holds as HasThread, Makes, after_steps_of, after_turn, at_answer, before_turn, channel_after, count_in, from, last_answer, one_of}
use Rattle.dma_device.proofs.Driven.{sets, steps_of, to, two_of}
use Rattle.dma_device.proofs.Starts.{dmago_starts, read_cpc, read_ftr, reads_faulting, reads_fine, reads_stopped}
use Rattle.dma_device.proofs.Vain.{busy, flag_set, seen_below}
use Rattle.dma_device.proofs.{Events.flag_of_bit, FlagSteps.waits_at, TurnChanges.all_rise, TurnChanges.call_keeps_count}
use borrow.Author.Tests.{ltb-true}
use Rattle.dma_explain.proofs.Refusals.{Before as HasBefore, LastLeads, call_fails_there, call_leads, call_signals}

-- a DMAGO sets pc to 0, with which each program begins
traced_begun : (start : Registers) (program : List ℕ) (k : ℕ) → traced (begun start) program k ≡ traced start program k
traced_begun start program k = grind (arith)

from_begun : (start : Registers) (program : List ℕ) (most : ℕ) (u : Unexplained) → Refuses (begun start) program most u → Refuses start program most u
from_begun start program most u h = grind (arith, traced_begun)

-- ---- its thread

module _ (go : Go) (most : ℕ) (u : Unexplained) (kind : FaultKind) (run : GivenTurns) (h : RunsRefused go most u kind run) (end : ℕ)
    (limit : end < run.count) where
  abbrev new : Thread
  new = started go.nonsecure go.addr (program_at go.ram go.addr) (get_or go.device.threads go.channel (reset_thread go.device.config.bus))

  refuses : Refuses (start_of go) go.program most u
  refuses =
      let found = subst (λ (o : Option Thread). IsSomeAnd (option_map (λ t. t.channel) o)
      (λ c. IsSomeAnd c.program (λ p. (u.cause ≢ TooLong) × (u.cause ≢ NoMemory → Refuses c.registers p.bytes most u)))) (dmago_starts go h.may_go)
      h.refused in
      subst (λ (bytes : List ℕ). Refuses (start_of go) bytes most u) h.loads
      (from_begun (start_of go) (program_at go.ram go.addr) most u (found.1 (λ none. let bad = sym (ap fault_of_cause none) ∙ h.fault in cc)))

  abbrev Holds : ChannelValue → Type 0
  Holds c = HasBefore (start_of go) go.program most u kind refuses h.fault c

  -- each device that is given a turn up to number `end` has the program's events
  abbrev Knows : Type 0
  Knows = (j : ℕ) → j ≤ end → DeviceHasEvents (run.before j) go u.steps

  record Failed (t : Thread) : Type 0 where
    faulting : is_faulting t ≡ true
    fault : t.fault ≡ 2 ^ fault_bit kind
    pc : t.pc ≡ (go.addr + u.pc) % 2 ^ 32

  record Stuck (t : Thread) : Type 0 where
    holds : Holds t.channel
    base : t.base ≡ go.addr
    busy : is_stopped t ≡ false
    failed : Knows → t.channel.taken ≡ u.steps → is_faulting t ≡ true → Failed t

  -- CPC at the refused instruction
  at_refused : (t : Thread) → Holds t.channel → t.channel.taken ≡ u.steps → t.base ≡ go.addr
      → (t.base + t.channel.registers.pc) % 2 ^ 32 ≡ (go.addr + u.pc) % 2 ^ 32
  at_refused t holds at base = grind (arith, refuses)

  -- an answer that isn't faulting, or not at the refused instruction
  quiet : (t : Thread) → Holds t.channel → t.base ≡ go.addr → is_stopped t ≡ false → (Knows → t.channel.taken ≡ u.steps → is_faulting t ≡ false) → Stuck t
  quiet t holds base busy calm = record {
    holds = holds;
    base = base;
    busy = busy;
    failed = λ knows at faulting. absurd (true≢false (sym faulting ∙ calm knows at));
  }

  -- t is at the answer of a call
  answer_stuck : (events : ℕ) (t : Thread) (last : Option ChanTurn) (signal : Option ℕ)
      → LastLeads (start_of go) go.program most u kind refuses h.fault last t.channel → t.base ≡ go.addr → t.pc ≡ (t.base + t.channel.registers.pc) % 2 ^ 32
      → (Knows → (e : ℕ) → last ≡ Some Moved → signal ≡ Some e → e < events) → Stuck (answer events t last signal)
  answer_stuck events t None signal h h2 h3 h4 = grind (arith, at_refused)
  answer_stuck events t (Some Moved) None h h2 h3 h4 = grind (arith, at_refused)
  answer_stuck events t (Some Moved) (Some e) h h2 h3 h4 =
      let fits : Knows → e < events = λ knows. h4 knows e refl refl in
      grind (arith, lt-ltb, at_refused, fits)
  answer_stuck events t (Some (Waiting e)) signal h h2 h3 h4 = grind (arith, lt-ltb, at_refused)
  answer_stuck events t (Some Ended) signal h h2 h3 h4 = grind (arith, at_refused)
  answer_stuck events t (Some (Fault f)) signal h h2 h3 h4 = grind (arith, at_refused)

  -- ---- a call of it

  -- it has executed at least this many instructions if it isn't faulting
  record Standing (least : ℕ) (image : List ℕ) (t : Thread) : Type 0 where
    low : length image ≤ end_of_addresses
    stuck : Stuck t
    counted : is_faulting t ≡ false → least ≤ t.channel.taken

  fine_runs : (d : DeviceValue) (t : Thread) → slice_get d.threads go.channel ≡ Some t → Stuck t → is_faulting t ≡ false → runs_at d go.channel ≡ true
  fine_runs d t found stuck fine = runs_found d go.channel t found ∙ simp (stuck.holds.loaded, fine) refl

  runs_fine : (t : Thread) → runs t ≡ true → is_faulting t ≡ false
  runs_fine t on = grind arith

  -- a call leads from at least `least` instructions to at least `more`: it needs to count none, or begins at one that
  -- doesn't wait
  abbrev Counts : Bool → DeviceValue → ℕ → ℕ → Type 0
  Counts made d least more = (more ≤ least) ⊎ ((more ≤ least + 1) × (runs_at d go.channel ≡ true → made ≡ true) × (waits_in_vain d go.channel ≡ false))

  module _ (k : Call) (t : Thread) (some : 0 < k.most) (low : length k.before.image ≤ end_of_addresses) (g : Stuck t) where
    leads : LastLeads (start_of go) go.program most u kind refuses h.fault (last_answer k t) (to k t).channel
    leads = call_leads (start_of go) go.program most u kind refuses h.fault k.marks (from k t) low h.limit g.holds (to k t) k.most (count_in k t)
        (last_answer k t) some (steps_of k t)

    call_stuck : (Knows → DeviceHasEvents k.before.device go u.steps) → Stuck (after_steps_of k t)
    call_stuck knows = answer_stuck k.before.device.config.events (at_answer k t) (last_answer k t) (sets k t) leads g.base refl (λ all e moved signal.
        let sev = call_signals (start_of go) go.program most u kind refuses h.fault k.marks (from k t) low h.limit g.holds (to k t) k.most (count_in k t)
        (last_answer k t) e (steps_of k t) moved signal in
        (knows all).signals e sev.0 sev.1)

    by_first : (v : Machine) (taken : ℕ) (last : Option ChanTurn) (turn : ChanTurn) → answer_at k.marks (from k t) ≡ turn
        → TakesSteps k.marks (from k t) k.most taken last v → LastLeads (start_of go) go.program most u kind refuses h.fault last v.channel
        → ((e : ℕ) → turn ≢ Waiting e) → ((f : FaultKind) → last ≢ Some (Fault f)) → t.channel.taken < v.channel.taken
    by_first v zero last turn is x leads awake fine = grind (arith, refuses)
    by_first v (suc p) last Moved is x leads awake fine = omega (arith, all_rise k.marks (from k t) p is, ap (λ (m : Machine). m.channel.taken) x.ends_at)
    by_first v (suc p) last (Waiting e) is x leads awake fine = absurd (awake e refl)
    by_first v (suc zero) last (Fault f) is x leads awake fine = absurd (fine f (x.answer ∙ ap (λ (a : ChanTurn). Some a) is))
    by_first v (suc zero) last Ended is x leads awake fine = grind (arith, refuses)
    by_first v (suc (suc p)) last turn is x leads awake fine =
        let moved = was_moved (ahead_of t.channel) (answer_at k.marks (from k t)) (went_before k.marks (from k t) 1 (steps_move x 1 (omega arith))) in
        omega (arith, all_rise k.marks (from k t) (suc p) moved, ap (λ (m : Machine). m.channel.taken) x.ends_at)

    -- it counts an instruction if it doesn't wait in vain or fail
    call_counts : slice_get k.before.device.threads go.channel ≡ Some t → runs t ≡ true → waits_in_vain k.before.device go.channel ≡ false
        → is_faulting (after_steps_of k t) ≡ false → t.channel.taken < (after_steps_of k t).channel.taken
    call_counts found on calm fine =
        let d = k.before.device in
        let rises = by_first (to k t) (count_in k t) (last_answer k t) (answer_at k.marks (from k t)) refl (steps_of k t) leads
        (λ e waits.
        let w = waits_at k.marks (from k t) e waits in
        let bit = flag_set d go.channel e w.0 t found on w.1.0 calm in
        true≢false (sym (flag_of_bit (visible_events d) e (seen_below d e bit) bit) ∙ w.1.1))
        (λ f fails. true≢false (ap (λ (o : Option ChanTurn). is_faulting (answer d.config.events (at_answer k t) o (sets k t))) (sym fails) ∙ fine)) in
        omega (arith, rises, ap (λ (c : ChannelValue). c.taken) (channel_after k t))

  call_makes : (k : Call) (least more : ℕ) → (k.made ≡ true → runs_at k.before.device go.channel ≡ true) → (k.made ≡ true → 0 < k.most)
      → (Knows → DeviceHasEvents k.before.device go u.steps) → Counts k.made k.before.device least more
      → Makes go.channel (Standing least) (Standing more) k
  call_makes k least more on some knows counts = record {
    rests = λ off none t found g. record {
      low = g.low;
      stuck = g.stuck;
      counted = λ fine. elim counts [
        | inl few ↦ (let enough = g.counted fine in omega (arith, few, enough))
        | inr one ↦ absurd (off (record { on = one.1 (fine_runs k.before.device t found g.stuck fine); thread = t; found = found }))
      ];
    };
    acts = λ made t found sent g.
        let low = g.low in
        let up = sym (runs_found k.before.device go.channel t found) ∙ on made in
        let enough = g.counted (runs_fine t up) in
        record {
          low = omega (arith, low, steps_size k.marks (from k t) (count_in k t));
          stuck = call_stuck k t (some made) low g.stuck knows;
          counted = λ fine. elim counts [
            | inl few ↦ omega (arith, few, enough, call_keeps_count k.marks k.most t k.before)
            | inr one ↦ (let rises = call_counts k t (some made) low g.stuck found up one.2 fine in omega (arith, rises, enough, one.0))
          ];
        };
  }

  -- ---- a turn

  module _ (d : DeviceValue) (regions : List Region) (limit_of : ℕ) (e : DeviceValue) (left : List Region) (turn : Turn)
      (x : TakesTurn d regions go.channel limit_of e left turn) (least : ℕ) (g : HasThread go.channel (Standing least) (setup_of d regions)) where
    abbrev one : Call
    one = one_of d regions go.channel limit_of

    abbrev two : Call
    two = two_of d regions go.channel limit_of

    turn_makes : (more : ℕ) → (Knows → DeviceHasEvents d go u.steps) → (more ≤ least)
        ⊎ ((more ≤ least + 1) × (0 < limit_of) × (waits_in_vain d go.channel ≡ false)) → HasThread go.channel (Standing more) (setup_of e left)
    turn_makes more knows counts =
        let first = first_in d regions go.channel limit_of in
        let config = if_config one.made one.marks go.channel limit_of one.before in
        let still : Knows → DeviceHasEvents two.before.device go u.steps = (λ all. record {
          waits = λ i w. subst (λ (c : Config). i < c.events) (sym config) ((knows all).waits i w);
          signals = λ i done w. subst (λ (c : Config). i < c.events) (sym config) ((knows all).signals i done w);
        }) in
        let counts_one : Counts one.made d least more = elim counts [
          | inl few ↦ inl few
          | inr w ↦ inr (w.0, (λ on. ap (λ (b : Bool). b && runs_at d go.channel) (lt-ltb 0 limit_of w.1) ∙ on), w.2)
        ] in
        after_turn (Standing least) (Standing more) (Standing more) x
        (call_makes one least more (begins_runs d go.channel limit_of)
        (λ made. ltb-true 0 limit_of (and_parts (nat_lt 0 limit_of) (runs_at d go.channel) made).0) knows counts_one)
        (call_makes two more more (follows_runs first.left.device go.channel first.called) (λ made. omega arith) still (inl (omega arith))) g

    -- before the turn it is at the refused instruction, and after it it has failed there
    abbrev Arrived : List ℕ → Thread → Type 0
    Arrived image t = Standing least image t × (t.channel.taken ≡ u.steps) × (is_faulting t ≡ false) × (image ≡ image_in regions)

    abbrev FailsThere : List ℕ → Thread → Type 0
    FailsThere image t = Failed t × (image ≡ image_in regions)

    turn_fails : g.thread.channel.taken ≡ u.steps → is_faulting g.thread ≡ false → 0 < limit_of → HasThread go.channel FailsThere (setup_of e left)
    turn_fails at fine some =
        let first = first_in d regions go.channel limit_of in
        let one_fails : Makes go.channel Arrived FailsThere one = record {
          rests = λ off none t found now. (
              let on = ap (λ (b : Bool). b && runs_at d go.channel) (lt-ltb 0 limit_of some) ∙ fine_runs d t found now.0.stuck now.2 in
              absurd (off (record { on = on; thread = t; found = found }))
              );
          acts = λ made t found sent now. (
              let stuck = now.0.stuck in
              let fails = call_fails_there (start_of go) go.program most u kind refuses h.fault one.marks (from one t) now.0.low h.limit stuck.holds (to one t)
              limit_of (count_in one t) (last_answer one t) some (steps_of one t) now.1 in
              let same : (at_answer one t).channel ≡ t.channel = ap (λ (m : Machine). m.channel) fails.1 in
              let pc = subst (λ (c : ChannelValue). (t.base + c.registers.pc) % 2 ^ 32 ≡ (go.addr + u.pc) % 2 ^ 32) (sym same)
              (at_refused t stuck.holds now.1 stuck.base) in (
                subst (λ (o : Option ChanTurn). Failed (answer d.config.events (at_answer one t) o (sets one t))) (sym fails.0)
                    (record { faulting = refl; fault = refl; pc = pc }),
                ap (λ (m : Machine). m.image) fails.1,
              )
              );
        } in
        -- no other call follows
        let two_rests : Makes go.channel FailsThere FailsThere two = record {
          rests = λ off none t found failed. failed;
          acts = λ made t found sent failed. (
              let on = sym (runs_found two.before.device go.channel t found) ∙ follows_runs two.before.device go.channel first.called made in
              absurd (true≢false (sym failed.0.faulting ∙ runs_fine t on))
              );
        } in
        after_turn Arrived FailsThere FailsThere x one_fails two_rests (record { thread = g.thread; is = g.is; holds = (g.holds, at, fine, refl) })

  -- ---- along the turns

  -- at least so many instructions are executed before turn number k: one for each turn that isn't vain
  abbrev ready : ℕ → ℕ
  ready k = k - vain run k go.channel

  ready_more : (k : ℕ) → (ready (suc k) ≤ ready k) ⊎ ((ready (suc k) ≤ ready k + 1) × (0 < run.most k) × (waits_in_vain (run.before k) go.channel ≡ false))
  ready_more k = by (is_vain run k go.channel) refl
    where
      by : (b : Bool) → is_vain run k go.channel ≡ b → (ready (suc k) ≤ ready k)
          ⊎ ((ready (suc k) ≤ ready k + 1) × (0 < run.most k) × (waits_in_vain (run.before k) go.channel ≡ false))
      by true is = inl (omega (arith, ap flag is))
      by false is =
          let calm = or_parts (nat_eq (run.most k) 0) (waits_in_vain (run.before k) go.channel) is in
          inr (omega (arith, ap flag is), busy (run.most k) calm.0, calm.1)

  new_stuck : Stuck new
  new_stuck = grind arith

  low_at : (k : ℕ) → k < run.count → length (image_in (run.lent k)) ≤ end_of_addresses
  low_at k less = image_of_most (pieces_of (run.lent k)) (h.order k less)

  after_each : (k : ℕ) → k < suc end → HasThread go.channel (Standing (ready k)) (setup_of (run.before k) (run.lent k))
      → HasThread go.channel (Standing (ready (suc k))) (setup_of (run.after k) (run.left k))
  after_each k less g =
      let x = h.takes k (omega (arith, less, limit)) in
      turn_makes (run.before k) (run.lent k) (run.most k) (run.after k) (run.left k) x.0 x.1 (ready k) g (ready (suc k)) (λ all. all k (omega (arith, less)))
      (ready_more k)

  before_each : (k : ℕ) → k < suc end → HasThread go.channel (Standing (ready k)) (setup_of (run.before k) (run.lent k))
  before_each =
      before_turn go.channel run (suc end) (λ k next. h.goes_on k (omega (arith, next, limit))) (λ k. Standing (ready k))
      (record {
        thread = new;
        is = h.begins ∙ dmago_starts go h.may_go;
        holds = record { low = low_at 0 (omega (arith, limit)); stuck = new_stuck; counted = λ _. omega arith };
      }) after_each (λ k t next g. record { low = low_at (k + 1) (omega (arith, next, limit)); stuck = g.stuck; counted = g.counted })

  -- ---- what a driver reads of it

  fails_at : (d : DeviceValue) (t : Thread) → slice_get d.threads go.channel ≡ Some t → Failed t → FailsAt go u kind d
  fails_at d t is failed = grind (arith, reads_faulting, read_ftr, read_cpc)

  executed_is : (d : DeviceValue) (t : Thread) → slice_get d.threads go.channel ≡ Some t → executed go d ≡ t.channel.taken
  executed_is d t is = ap (of_thread (λ t. t.channel.taken)) is

  held : NeverPasses go u kind run end
  held =
      let few = h.may_go.few in
      let here : end < suc end = omega arith in
      let g = before_each end here in
      let w = after_each end here g in
      let counted = executed_is (run.after end) w.thread w.is in
      record {
        within = let within = w.holds.stuck.holds.few in omega (arith, counted, within);
        never_ends = λ stopped. true≢false (sym (reads_stopped (run.after end) go.channel w.thread few w.is stopped) ∙ w.holds.stuck.busy);
        fails = λ at fine some.
            let calm = false_from_ne_true _ (λ faulting. fine (reads_faulting (run.before end) go.channel g.thread few g.is faulting)) in
            let x = h.takes end limit in
            let v = turn_fails (run.before end) (run.lent end) (run.most end) (run.after end) (run.left end) x.0 x.1 (ready end) g
            (sym (executed_is (run.before end) g.thread g.is) ∙ at) calm some in
            (fails_at (run.after end) v.thread v.is v.holds.0, v.holds.1);
        failed = λ knows at faulting.
            fails_at (run.after end) w.thread w.is
            (w.holds.stuck.failed knows (sym counted ∙ at)
            (true_from_ne_false _ (λ calm. reads_fine (run.after end) go.channel w.thread few w.is calm faulting)));
        fails_in_time = λ fine.
            let calm = false_from_ne_true _ (λ faulting. fine (reads_faulting (run.after end) go.channel w.thread few w.is faulting)) in
            let enough = w.holds.counted calm in
            let within = w.holds.stuck.holds.few in
            let e : suc end ≡ end + 1 = omega arith in
            subst (λ (j : ℕ). j ≤ u.steps + vain run j go.channel) e (omega (arith, enough, within));
      }

pub refused_fails : RefusedFails
refused_fails go most u kind run h k less = held go most u kind run h k less
