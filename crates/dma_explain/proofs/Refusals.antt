-- What a channel does at the instruction at which `explain` refuses its program.
use Rattle.std.proofs.Common.{◌≡◌, ◌≢◌, ℕ, zero, suc, ◌+◌, ◌≤◌, ◌<◌, Bool, true, false, cond, ◌&&◌, List, [], ◌∷◌, length, Option, Some, None, Result, Ok, Err}
use Rattle.std.proofs.Common.{refl, sym, ap, ◌∙◌, subst, arith, inl, inr, length-append, true≢false}
use Rattle.std.specs.Prelude.{is_some, nat_lt, not}
use Rattle.std.specs.{List.list_any, Option.option_and_then}
use Rattle.std.proofs.{lemmas.Bool.cases_lt, lemmas.Bool.cond_both, lemmas.Bool.Decides.nat_tests, lemmas.List.length-drop, lemmas.List.length-map}
use Rattle.std.proofs.{lemmas.Option.none-some, lemmas.Option.same_Some}
use Rattle.dma_insn.specs.declared.insn.Reg.TheVariants.{Ccr, Dar}
use Rattle.dma_insn.specs.declared.chip.ChipInsn.TheVariants.{Mov, Ld, St, End, LpEnd, Sev, Wfe, StoreZeros, AddHalfword, LoopAgain}
use Rattle.dma_insn.specs.{declared.chip.Address.TheVariants.Destination, declared.chip.ChipInsn.ChipInsn}
use Rattle.dma_mem.specs.{Places.end_of_addresses, Marking.MarkList, Marking.is_marked, declared.marks.MarkKind.MarkKind}
use Rattle.dma_mem.specs.{declared.marks.MarkKind.TheVariants.Reading, declared.marks.MarkKind.TheVariants.Writing}
use Rattle.dma_chan.specs.declared.turn.ChanTurn.TheVariants.{Moved, Waiting, Ended, Fault}
use Rattle.dma_chan.specs.declared.turn.FaultKind.TheVariants.{MfifoErr, StDataUnavailable, InstrFetchErr, DataWriteErr, DataReadErr}
use Rattle.dma_chan.specs.Bursts.{burst_len, reaches, touched}
use Rattle.dma_chan.specs.Channel.{ChannelValue, ahead_of, code_of, last_count, state_of, step_of, stepped}
use Rattle.dma_chan.specs.Exec.{State, act, buffer_size, destination_of, exec_fetched, fault_in, faults, kept, moved}
use Rattle.dma_chan.specs.Exec.{source_of, state}
use Rattle.dma_chan.specs.Stepping.{Machine, TakesSteps, after_step, after_steps, answer_at, goes_on_after, signal_after, signal_of}
use Rattle.dma_chan.specs.{declared.exec.Registers.Registers, declared.turn.ChanTurn.ChanTurn, declared.turn.FaultKind.FaultKind, declared.bursts.Burst.Burst}
use Rattle.dma_chan.specs.{inner.Spans.MovesSome}
use Rattle.dma_explain.specs.declared.explain.Cause.TheVariants.{Fails, LoadsPast, StoresPast, StoresFixed, DropsBytes}
use Rattle.dma_explain.specs.Explains.{GoesOn, IsSignal, Refuses, StopsAt, Trace, after_insn, amounts_of, held, next_in, passes}
use Rattle.dma_explain.specs.Explains.{stop_of, stop_of_insn, stop_of_mov, traced}
use Rattle.dma_explain.specs.Refusals.{FaultsAreRefusals, FirstGoOn, ExecutesFirst, RefusalsAreFaults, fault_of_cause}
use Rattle.dma_explain.specs.{declared.explain.Amounts.Amounts, declared.explain.Cause.Cause, declared.explain.Unexplained.Unexplained}
use Rattle.dma_chan.proofs.SteppedOver.{is_still, steps_size, was_moved, went_before}
use Rattle.dma_chan.proofs.{BurstReach.reaches_span, CallWrites.act_leads, CallWrites.turned, ControlWords.moves_some, KeptBytes.kept_held}
use Rattle.dma_chan.proofs.{RunAlone.moved_count, StepsTaken.steps_move, StepsTaken.steps_stop}
use Rattle.dma_explain.proofs.{CallStays.registers_after, GoingOn.Can, GoingOn.Few, GoingOn.can_next, GoingOn.dropped, GoingOn.few_at, GoingOn.length_up}

-- ---- how many bytes are in the buffer after an instruction that moved

abbrev Holds : ChipInsn → Trace → ChanTurn × State → Type 0
Holds i x y = y.0 ≡ Moved → length y.1.buffer ≡ held (after_insn i x)

module _ (marks : MarkList) (x : Trace) (buffer image : List ℕ) (flags : List Bool) (holds : length buffer ≡ held x) where
  abbrev here : State
  here = state x.registers buffer image flags

  keeps : (i : ChipInsn) → dropped i x ≡ false → length (kept x.registers (moved i x.registers) buffer) ≡ held x
  keeps i none = ap length (kept_held x.registers (moved i x.registers) buffer _ holds none) ∙ holds

  holds_after : (i : ChipInsn) → Few x → Can i x → Holds i x (act marks i here)
  holds_after i h h2 = grind (arith, cond_both, length-append, length-map, length-drop, length_up, keeps)

-- ---- a channel beside the run without memory

-- after k instructions
pub record Beside (start : Registers) (program : List ℕ) (k : ℕ) (c : ChannelValue) : Type 0 where
  pub code : code_of c ≡ program
  pub registers : c.registers ≡ (traced start program k).registers
  pub holds : length c.buffer ≡ held (traced start program k)

module _ (start : Registers) (program : List ℕ) where
  ahead_beside : (k : ℕ) (c : ChannelValue) → Beside start program k c → ahead_of c ≡ next_in program (traced start program k)
  ahead_beside k c b = grind arith

  moved_by : (k : ℕ) (marks : MarkList) (c : ChannelValue) (image : List ℕ) (flags : List Bool) (next : Result ChipInsn FaultKind) → Beside start program k c
      → Few (traced start program k) → next_in program (traced start program k) ≡ next → GoesOn next (traced start program k)
      → (step_of marks c image flags).0 ≡ Moved → Beside start program (suc k) (stepped marks c image flags)
  moved_by k marks c image flags next h h2 h3 h4 h5 = grind (arith, ahead_beside, holds_after, can_next, act_leads, registers_after)

  beside : (n : ℕ) (marks : ℕ → MarkList) (channel : ℕ → ChannelValue) (image : ℕ → List ℕ) (flags : ℕ → List Bool) → FirstGoOn start program n
      → ExecutesFirst start program n marks channel image flags → (k : ℕ) → k ≤ n → Beside start program k (channel k)
  beside n marks channel image flags goes g zero l = grind arith
  beside n marks channel image flags goes g (suc k) l =
      let less : k < n = omega arith in
      let next : suc k ≡ k + 1 = omega arith in
      subst (Beside start program (suc k)) (sym (ap channel next ∙ g.goes_on k less))
      (moved_by k (marks k) (channel k) (image k) (flags k) (next_in program (traced start program k))
      (beside n marks channel image flags goes g k (omega arith)) (few_at start program k (λ j m. goes j (omega arith))) refl (goes k less)
      (g.moves k less))

-- ---- bursts that end above the last address

none_marked : (kind : MarkKind) (xs : List ℕ) → list_any (is_marked kind []) xs ≡ false
none_marked kind [] = refl
none_marked kind (a ∷ xs) = none_marked kind xs

all_past : (hit : Bool) (size n : ℕ) → nat_lt end_of_addresses n ≡ true → size ≤ end_of_addresses → (not hit && not (nat_lt size n)) ≡ false
all_past hit size n past low = grind (arith, nat_tests)

-- it fails in each memory of at most 2^32 bytes
past_fails : (kind : MarkKind) (marks : MarkList) (size : ℕ) (b : Burst) → MovesSome b → passes b ≡ true → size ≤ end_of_addresses
    → reaches kind marks size (touched b) ≡ false
past_fails kind marks size b some past low = grind (arith, reaches_span, all_past)

-- only it fails in a memory of 2^32 bytes without marks
whole_reached : (kind : MarkKind) (marks : MarkList) (size : ℕ) (b : Burst) → MovesSome b → size ≡ end_of_addresses → marks ≡ []
    → reaches kind marks size (touched b) ≡ not (passes b)
whole_reached kind marks size b some all unmarked = grind (arith, reaches_span, none_marked)

-- ---- the fault of a cause

abbrev refused : Option Cause → Option FaultKind
refused stop = option_and_then fault_of_cause stop

-- tests of causes that are no fault
calm : (b : Bool) (stop other : Option Cause) → refused stop ≡ None → refused other ≡ None → refused (cond b stop other) ≡ None
calm b stop other h h2 = grind (arith)

calm_mov : (i : ChipInsn) (x : Trace) → refused (stop_of_mov i x) ≡ None
calm_mov i x = calm (dropped i x) (Some DropsBytes) None refl refl

-- An instruction that stops for this cause, or for none, has this result: the cause's fault in each memory, and no other
-- fault in a memory of 2^32 bytes without marks.
record Agrees (marks : MarkList) (s : State) (stop : Option Cause) (y : ChanTurn × State) : Type 0 where
  pub everywhere : length s.image ≤ end_of_addresses → (kind : FaultKind) → refused stop ≡ Some kind → y ≡ faults kind s
  pub no_other : length s.image ≡ end_of_addresses → marks ≡ [] → fault_in y.0 ≡ refused stop

module _ (marks : MarkList) (s : State) where
  fails : (k : FaultKind) → Agrees marks s (Some (Fails k)) (faults k s)
  fails k = record { everywhere = λ low kind e. ap (λ (j : FaultKind). faults j s) (same_Some k kind e); no_other = λ all unmarked. refl }

  -- no fault
  none : (stop : Option Cause) (y : ChanTurn × State) → refused stop ≡ None → fault_in y.0 ≡ None → Agrees marks s stop y
  none stop y e f = record { everywhere = λ low kind g. absurd (none-some kind (sym e ∙ g)); no_other = λ all unmarked. f ∙ sym e }

  -- a test of the machine and of the run without memory
  if_fails : (b : Bool) (k : FaultKind) (stop : Option Cause) (y : ChanTurn × State) → Agrees marks s stop y
      → Agrees marks s (cond b (Some (Fails k)) stop) (cond b (faults k s) y)
  if_fails b k stop y h = grind (arith)

  unless_fails : (b : Bool) (k : FaultKind) (stop : Option Cause) (y : ChanTurn × State) → Agrees marks s stop y
      → Agrees marks s (cond b stop (Some (Fails k))) (cond b y (faults k s))
  unless_fails b k stop y h = grind (arith)

  -- a burst
  by_tests : (past hit : Bool) (cause : Cause) (k : FaultKind) (stop : Option Cause) (y : ChanTurn × State)
      → (past ≡ true → length s.image ≤ end_of_addresses → hit ≡ false) → (length s.image ≡ end_of_addresses → marks ≡ [] → hit ≡ not past)
      → fault_of_cause cause ≡ Some k → refused stop ≡ None → fault_in y.0 ≡ None → Agrees marks s (cond past (Some cause) stop) (cond hit y (faults k s))
  by_tests past hit cause k stop y h h2 h3 h4 h5 = grind (arith, same_Some, none-some)

  burst : (kind : MarkKind) (b : Burst) (cause : Cause) (k : FaultKind) (stop : Option Cause) (y : ChanTurn × State) → MovesSome b
      → fault_of_cause cause ≡ Some k → refused stop ≡ None → fault_in y.0 ≡ None
      → Agrees marks s (cond (passes b) (Some cause) stop) (cond (reaches kind marks (length s.image) (touched b)) y (faults k s))
  burst kind b cause k stop y some is calm_stop moves = grind (arith, by_tests, past_fails, whole_reached)

module _ (marks : MarkList) (x : Trace) (buffer image : List ℕ) (flags : List Bool) (holds : length buffer ≡ held x) where
  abbrev now : State
  now = state x.registers buffer image flags

  agrees : (i : ChipInsn) → Agrees marks now (stop_of_insn i x) (act marks i now)
  agrees Ld =
      let b = source_of x.registers in
      rw holds (if_fails marks now (nat_lt buffer_size (held x + burst_len b)) MfifoErr _ _
      (burst marks now Reading b LoadsPast DataReadErr None _ (moves_some x.registers.bus 0 x.registers.sar x.registers.ccr) refl refl refl))
  agrees St =
      let b = destination_of x.registers in
      rw holds (if_fails marks now (nat_lt (held x) (burst_len b)) StDataUnavailable _ _
      (burst marks now Writing b StoresPast DataWriteErr _ _ (moves_some x.registers.bus 14 x.registers.dar x.registers.ccr) refl
      (calm b.increments None (Some StoresFixed) refl refl) refl))
  agrees StoreZeros =
      let b = destination_of x.registers in
      burst marks now Writing b StoresPast DataWriteErr _ _ (moves_some x.registers.bus 14 x.registers.dar x.registers.ccr) refl
      (calm b.increments None (Some StoresFixed) refl refl) refl
  agrees (Mov Ccr w) = grind (arith, unless_fails, none, calm_mov)
  agrees (Mov Dar v) = none marks now (stop_of_mov (Mov Dar v) x) _ (calm_mov (Mov Dar v) x) refl
  agrees (AddHalfword Destination half negative) = grind (arith, none, calm_mov)
  agrees (LpEnd c back) = grind (arith, if_fails, none)
  agrees (LoopAgain c back) = if_fails marks now (nat_lt x.registers.pc back) InstrFetchErr None _ (none marks now None _ refl refl)
  agrees End = grind (arith, none, calm)
  agrees (Wfe n v) = grind (arith, none, cond_both)
  agrees i = none marks now None (act marks i now) refl refl

  agrees_fetched : (next : Result ChipInsn FaultKind) → Agrees marks now (stop_of next x) (exec_fetched marks next now)
  agrees_fetched (Ok i) = agrees i
  agrees_fetched (Err kind) = fails marks now kind

-- the next step of a channel beside the run without memory
agrees_beside : (start : Registers) (program : List ℕ) (n : ℕ) (c : ChannelValue) (marks : MarkList) (image : List ℕ) (flags : List Bool)
    → Beside start program n c → let x = traced start program n in
    Agrees marks (state_of c image flags) (stop_of (next_in program x) x) (step_of marks c image flags)
agrees_beside start program n c marks image flags b = grind (arith, agrees_fetched, ahead_beside)

-- a refusal for a fault is one at an instruction, and comes before the limit
stop_there : (start : Registers) (program : List ℕ) (most steps : ℕ) (cause : Cause) (kind : FaultKind) → StopsAt start program most steps cause
    → fault_of_cause cause ≡ Some kind → let x = traced start program steps in (steps < most) × (refused (stop_of (next_in program x) x) ≡ Some kind)
stop_there start program most steps cause kind h h2 = grind (arith, none-some, none)

pub refusals_fault : RefusalsAreFaults
refusals_fault start program most u marks channel image flags h g ms memory fs kind low is =
    let c = channel u.steps in
    let b = beside start program u.steps marks channel image flags h.goes g u.steps (omega arith) in
    (agrees_beside start program u.steps c ms memory fs b).everywhere low kind (stop_there start program most u.steps u.cause kind h.stops is).1

pub faults_refused : FaultsAreRefusals
faults_refused start program n marks channel image flags goes g memory fs all =
    let b = beside start program n marks channel image flags goes g n (omega arith) in
    (agrees_beside start program n (channel n) [] memory fs b).no_other all refl

-- ---- the steps of a channel whose program is refused for a fault

never_ends : (marks : MarkList) (i : ChipInsn) (s : State) → i ≢ End → (act marks i s).0 ≢ Ended
never_ends marks i s other = grind arith

goes_never_ends : (marks : MarkList) (next : Result ChipInsn FaultKind) (s : State) → next ≢ Ok End → (exec_fetched marks next s).0 ≢ Ended
goes_never_ends marks next s h = grind (arith, never_ends)

module _ (start : Registers) (program : List ℕ) (most : ℕ) (u : Unexplained) (kind : FaultKind) (h : Refuses start program most u)
    (is : fault_of_cause u.cause ≡ Some kind) where
  -- it has executed at most the instructions before the refused one
  pub record Before (c : ChannelValue) : Type 0 where
    pub few : c.taken ≤ u.steps
    pub beside : Beside start program c.taken c
    pub loaded : is_some c.program ≡ true

  -- and so it has after a step with this answer, which has the refusal's fault at the refused instruction
  abbrev pub Leads : ChanTurn → ChannelValue → Type 0
  Leads Moved c = Before c
  Leads Ended c = ⊥
  Leads (Waiting e) c = Before c × (c.taken < u.steps)
  Leads (Fault k) c = Before c × (c.taken ≡ u.steps → k ≡ kind)

  module _ (marks : MarkList) (m : Machine) (low : length m.image ≤ end_of_addresses) (b : Before m.channel) where
    -- the refused instruction
    pub fails_there : m.channel.taken ≡ u.steps → answer_at marks m ≡ Fault kind
    fails_there at =
        let beside_it = subst (λ (k : ℕ). Beside start program k m.channel) at b.beside in
        let agrees = agrees_beside start program u.steps m.channel marks m.image m.flags beside_it in
        ap (λ (y : ChanTurn × State). y.0) (agrees.everywhere low kind (stop_there start program most u.steps u.cause kind h.stops is).1)

    -- one before it
    moves_before : m.channel.taken < u.steps → answer_at marks m ≡ Moved → Before (after_step marks m).channel
    moves_before less moves =
        let c = m.channel in
        let k = c.taken in
        let counted : (after_step marks m).channel.taken ≡ suc k = grind (arith, moved_count) in
        let after = moved_by start program k marks c m.image m.flags _ b.beside (few_at start program k (λ j l. h.goes j (omega arith))) refl (h.goes k less)
        moves in
        record {
          few = omega (arith, counted, less);
          beside = subst (λ (j : ℕ). Beside start program j (after_step marks m).channel) (sym counted) after;
          loaded = ap (λ (d : ChannelValue). is_some d.program) (turned marks m Moved moves) ∙ b.loaded;
        }

    goes_before : m.channel.taken < u.steps → answer_at marks m ≢ Ended
    goes_before less over = grind (arith, goes_never_ends, ahead_beside)

    leads_before : m.channel.taken < u.steps → (turn : ChanTurn) → answer_at marks m ≡ turn → Leads turn (after_step marks m).channel
    leads_before h turn h2 = grind (arith, moves_before, goes_before, is_still)

    pub step_leads : Leads (answer_at marks m) (after_step marks m).channel
    step_leads = grind (arith, cases_lt, leads_before, fails_there, is_still)

  -- ---- a call

  abbrev pub LastLeads : Option ChanTurn → ChannelValue → Type 0
  LastLeads None c = ⊥
  LastLeads (Some turn) c = Leads turn c

  module _ (marks : MarkList) (s : Machine) (low : length s.image ≤ end_of_addresses) (limit : most ≤ last_count) (b : Before s.channel) where
    low_after : (j : ℕ) → length (after_steps marks s j).image ≤ end_of_addresses
    low_after j = omega (arith, steps_size marks s j, low)

    many_held : (j : ℕ) → ((k : ℕ) → k < suc j → goes_on_after marks s k ≡ true) → Before (after_steps marks s j).channel
    many_held zero moves = b
    many_held (suc j) moves =
        let m = after_steps marks s j in
        let moved = was_moved (ahead_of m.channel) (answer_at marks m) (went_before marks s (suc j) (moves (suc j) (omega arith))) in
        subst (λ (turn : ChanTurn). Leads turn (after_step marks m).channel) moved
        (step_leads marks m (low_after j) (many_held j (λ k l. moves k (omega arith))))

    -- a call that may take a step takes one
    pub call_leads : (v : Machine) (limit_of taken : ℕ) (last : Option ChanTurn) → 0 < limit_of → TakesSteps marks s limit_of taken last v
        → LastLeads last v.channel
    call_leads v limit_of zero last some x = elim (steps_stop x) [
      | inl all ↦ absurd (omega (arith, all, some))
      | inr other ↦ elim other [
        | inl over ↦ absurd (true≢false over)
        | inr full ↦
            let same : v.channel.taken ≡ s.channel.taken = ap (λ (m : Machine). m.channel.taken) x.ends_at in
            absurd (omega (arith, full, same, limit, b.few, (stop_there start program most u.steps u.cause kind h.stops is).0))
      ]
    ]
    call_leads v limit_of (suc p) last some x =
        let m = after_steps marks s p in
        subst (λ (o : Option ChanTurn). LastLeads o v.channel) (sym x.answer)
        (subst (λ (w : Machine). Leads (answer_at marks m) w.channel) (sym x.ends_at)
        (step_leads marks m (low_after p) (many_held p (steps_move x))))

    -- an event that it signals is that of a DMASEV before the refused instruction
    pub call_signals : (v : Machine) (limit_of taken : ℕ) (last : Option ChanTurn) (e : ℕ) → TakesSteps marks s limit_of taken last v → last ≡ Some Moved
        → signal_after marks s taken ≡ Some e → (done : Amounts) × IsSignal start program u.steps e done
    call_signals v limit_of zero last e x moved signal = absurd (cc)
    call_signals v limit_of (suc p) last e x moved signal =
        let m = after_steps marks s p in
        let held = many_held p (steps_move x) in
        let k = m.channel.taken in
        let answer : Some (answer_at marks m) ≡ Some Moved = sym x.answer ∙ moved in
        elim (cases_lt k u.steps) [
          | inl less ↦ (
            amounts_of (traced start program k),
            record {
              step = k;
              within = less;
              signals = sym (ahead_beside start program k m.channel held.beside) ∙ sent (ahead_of m.channel) e signal;
              after = refl;
            },
          )
          | inr all ↦
              let fails = fails_there marks m (low_after p) held (let few = held.few in omega (arith, all, few)) in
              absurd (cc)
        ]
      where
        sent : (next : Result ChipInsn FaultKind) (i : ℕ) → signal_of next ≡ Some i → next ≡ Ok (Sev i)
        sent next i signal = grind arith

    -- a call at the refused instruction fails there and changes nothing
    pub call_fails_there : (v : Machine) (limit_of taken : ℕ) (last : Option ChanTurn) → 0 < limit_of → TakesSteps marks s limit_of taken last v
        → s.channel.taken ≡ u.steps → (last ≡ Some (Fault kind)) × (v ≡ s)
    call_fails_there v limit_of zero last some x at =
        absurd (subst (λ (o : Option ChanTurn). LastLeads o v.channel) x.answer (call_leads v limit_of zero last some x))
    call_fails_there v limit_of (suc zero) last some x at = grind (arith, fails_there, is_still)
    call_fails_there v limit_of (suc (suc p)) last some x at =
        let fails = fails_there marks s low b at in
        let moved = was_moved (ahead_of s.channel) (answer_at marks s) (went_before marks s 1 (steps_move x 1 (omega arith))) in
        absurd (cc)
