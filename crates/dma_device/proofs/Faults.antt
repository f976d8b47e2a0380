-- What makes threads faulting, and with them the line irq_abort high.
use Rattle.std.proofs.Common.{◌≡◌, ◌≢◌, ◌∙◌, ◌⊎◌, ℕ, zero, suc, ◌+◌, ◌*◌, ◌%◌, ◌/◌, ◌^◌, Bool, true, false, ◌&&◌, ◌||◌, List, [], ◌∷◌, Option, Some, ap}
use Rattle.std.proofs.Common.{refl, sym, subst, arith, inl, inr, true≢false, replicate}
use Rattle.std.proofs.lemmas.Bool.{and_parts, cases_eq, eq-eqb, false_from_ne_true, ne_eqb, not-true, or_cases, or_left, or_right, true_from_ne_false, eqb-true}
use Rattle.std.proofs.lemmas.Bool.{eqb-false}
use Rattle.std.proofs.lemmas.Nat.Bits.{bit_at-suc, bit_at-zero, bit_at_lowest}
use Rattle.std.proofs.{lemmas.Bool.Decides.nat_tests, lemmas.List.Elements.All-replicate, lemmas.List.Folds.list_any_none}
use Rattle.std.specs.{Prelude.◌↔◌, Prelude.◌==◌, Prelude.if◌then◌else◌, Prelude.not, Prelude.slice_get, Int.bit_at, List.list_any, Option.option_map_or}
use Rattle.dma_insn.specs.ControlWord.{field, flag}
use Rattle.dma_mem.specs.{Marking.MarkList, Regions.Piece, Regions.pieces_of, declared.regions.Region.Region}
use Rattle.dma_chan.specs.{declared.bus.BusWidth.BusWidth, declared.turn.ChanTurn.ChanTurn}
use Rattle.dma_device.specs.Accesses.{Access, Answer, Does, Reads, Resets, Restores, Turns, Writes}
use Rattle.dma_device.specs.Device.{reset_device, DeviceValue, by_manager, by_thread, debugged, faulting_bits, irq_abort, signalled, with_thread, written}
use Rattle.dma_device.specs.Faults.{EndsFault, EndsAll, AbortIsFaulting, AbortsAreExact, Addresses, CallFails, DebugFails, Fails, FaultsAreExact, Kills}
use Rattle.dma_device.specs.Faults.{LastFails, TheChannel, TheManager, TurnFails, Who, can_execute, channel_fails, debug_fails, faults_at, faults_if}
use Rattle.dma_device.specs.Faults.{manager_fails}
use Rattle.dma_device.specs.Thread.{answer, dbg_instr, failed, is_faulting, is_stopped, killed, reset_thread, runs}
use Rattle.dma_device.specs.Turns.{Outcome, Setup, TakesTurn, begins, called_if, follows, number_of, setup_of, with_flags}
use Rattle.dma_device.specs.{declared.device.Manager.Manager, declared.config.Config.Config, declared.device.turns.Turn.Turn, declared.thread.Thread.Thread}
use Rattle.dma_device.specs.{CallSteps.first_in, CallSteps.last_in, CallSteps.marks_in, CallSteps.second_in, CallSteps.signal_in, Interrupts.is_fine}
use Rattle.dma_device.proofs.Calls.{acts_alike, begins_runs, call_acts, call_is, call_keeps, follows_runs, machine_left, thread_left, turn_device, turn_keeps}
use Rattle.dma_device.proofs.{Cases.branch, Cases.debug_cases, FlagNumber.flag_few, FlagNumber.flag_is, Found.set_found, Found.set_other, Iff.same_or}
use Rattle.dma_device.proofs.{Iff.then_or}
use Rattle.dma_device.specs.Offsets as offset
use Rattle.dma_device.proofs.History as history

-- ---- a thread is replaced

set_there : (d : DeviceValue) (n : ℕ) (t u : Thread) → slice_get d.threads n ≡ Some t → faults_at (TheChannel n) (with_thread n u d) ≡ is_faulting u
set_there d n t u found = ap faults_if (set_found d.threads n t u found)

-- another thread is replaced
elsewhere : (who : Who) (d : DeviceValue) (n : ℕ) (u : Thread) → who ≢ TheChannel n → faults_at who (with_thread n u d) ≡ faults_at who d
elsewhere who d n u h = grind (arith, set_other)

-- a stopped thread is started
start_same : (who : Who) (d : DeviceValue) (n : ℕ) (t u : Thread) → slice_get d.threads n ≡ Some t → is_stopped t ≡ true → is_faulting u ≡ false
    → faults_at who (with_thread n u d) ≡ faults_at who d
start_same who d n t u found stopped fine = grind (arith, set_found, set_other)

-- the manager and the threads are the same
same_parts : (who : Who) (d e : DeviceValue) → e.manager ≡ d.manager → e.threads ≡ d.threads → faults_at who e ≡ faults_at who d
same_parts who d e h h2 = grind (arith)

signal_same : (who : Who) (k : ℕ) (d : DeviceValue) → faults_at who (signalled k d) ≡ faults_at who d
signal_same who k d = grind arith

-- ---- the debug instruction by a channel thread

thread_own : (n : ℕ) (o : Option Thread) (opcode byte : ℕ) (d : DeviceValue) → slice_get d.threads n ≡ o
    → faults_at (TheChannel n) (by_thread n o opcode byte d) ≡ (if opcode == 0x01 then false else (faults_if o || (is_fine o && channel_fails d opcode byte)))
thread_own n o opcode byte d found = grind (arith, set_found)

-- ---- by the manager

manager_own : (ram : List Piece) (opcode byte : ℕ) (d : DeviceValue)
    → faults_at TheManager (by_manager ram opcode byte d) ≡
    (if opcode == 0x01 then false else (d.manager.is_faulting || (not d.manager.is_faulting && manager_fails d opcode byte)))
manager_own ram opcode byte d = grind arith

-- ---- by either

abbrev opcode_of : DeviceValue → ℕ
opcode_of d = field 16 8 d.dbginst0

-- whether the thread that executes the debug instruction is faulting after it
abbrev debug_result : Who → DeviceValue → Bool
debug_result who d = if opcode_of d == 0x01 then false else (faults_at who d || (can_execute who d && debug_fails who d))

module _ (ram : List Piece) (d : DeviceValue) where
  -- after the debug instruction of this thread, and of another
  addressed : (who : Who) → Addresses d who → faults_at who (debugged ram d) ≡ debug_result who d
  addressed who h = grind (arith, ne_eqb, manager_own, eq-eqb, thread_own)

  passed_by : (who : Who) → ¬ Addresses d who → faults_at who (debugged ram d) ≡ faults_at who d
  passed_by who off_it =
      debug_cases (λ (e : DeviceValue). faults_at who e ≡ faults_at who d) ram d (record {
        same = refl;
        manager = λ other m _. with_manager who m other off_it;
        sev = λ byte _. signal_same who (byte / 8) d;
        kills = λ t is _. elsewhere who d (field 8 3 d.dbginst0) (killed t) (λ same. off_it (subst (Addresses d) (sym same) (is, refl)));
        fails = λ why t is _. elsewhere who d (field 8 3 d.dbginst0) (failed (why + dbg_instr) t) (λ same. off_it (subst (Addresses d) (sym same) (is, refl)));
        starts = λ n t nonsecure _ stopped found. start_same who d n t _ found stopped refl;
      })
    where
      with_manager : (who : Who) (m : Manager) → field 0 1 d.dbginst0 ≢ 1 → ¬ Addresses d who → faults_at who (record d { manager = m }) ≡ faults_at who d
      with_manager TheManager m other off_it = absurd (off_it other)
      with_manager (TheChannel n) m other off_it = refl

decide_addresses : (who : Who) (d : DeviceValue) → Addresses d who ⊎ (¬ Addresses d who)
decide_addresses TheManager d = elim (cases_eq (field 0 1 d.dbginst0) 1) [ inl is ↦ inr (λ off_it. off_it is) | inr other ↦ inl other ]
decide_addresses (TheChannel m) d = grind (arith, cases_eq (field 0 1 d.dbginst0) 1, cases_eq (field 8 3 d.dbginst0) m)

-- ---- one write

abbrev Exact : Who → DeviceValue → DeviceValue → Type 0 → Type 0 → Type 0
Exact who d e Up Down = history.Exact (faults_at who d ≡ true) (faults_at who e ≡ true) Up Down

exact_if_same : (who : Who) (d e : DeviceValue) (Up Down : Type 0) → faults_at who e ≡ faults_at who d → ¬ Up → ¬ Down → Exact who d e Up Down
exact_if_same who d e Up Down same = history.exact_if_same (faults_at who d ≡ true) (faults_at who e ≡ true) Up Down (λ was. same ∙ was) (λ is. sym same ∙ is)

-- a write to any register but DBGCMD leaves the threads
others_keep : (who : Who) (ram : List Piece) (at value : ℕ) (d : DeviceValue) → at ≢ offset.dbgcmd → faults_at who (written ram at value d) ≡ faults_at who d
others_keep who ram at value d not_dbgcmd = grind arith

-- a DMAKILL doesn't fail
kill_passes : (who : Who) (d : DeviceValue) → opcode_of d ≡ 0x01 → debug_fails who d ≡ false
kill_passes who d is = grind arith

-- a debug DMAKILL of this thread
abbrev KillsBy : Who → ℕ → ℕ → DeviceValue → Type 0
KillsBy who at value d = (at ≡ offset.dbgcmd) × ((value % 4 ≡ 0) × ((opcode_of d ≡ 0x01) × Addresses d who))

-- a write to DBGCMD that makes this thread fail
abbrev FailsBy : Who → ℕ → ℕ → DeviceValue → Type 0
FailsBy who at value d = (at ≡ offset.dbgcmd) × DebugFails who d value

-- the thread was faulting, and isn't after a DMAKILL; or it executes what fails
by_result : (one f c g a : Bool) (Up Down : Type 0) → a ≡ (if one then false else (f || (c && g))) → (one ≡ true → g ≡ false) → Up ↔ ((c ≡ true) × (g ≡ true))
    → Down ↔ (one ≡ true) → history.Exact (f ≡ true) (a ≡ true) Up Down
by_result one f c g a Up Down is calm up down = grind arith

debug_exact : (who : Who) (ram : List Piece) (value : ℕ) (d : DeviceValue) → value % 4 ≡ 0
    → Exact who d (debugged ram d) (FailsBy who offset.dbgcmd value d) (KillsBy who offset.dbgcmd value d)
debug_exact who ram value d even = grind (arith, addressed, by_result, decide_addresses, eq-eqb, eqb-true, kill_passes, passed_by, exact_if_same)

write_exact : (who : Who) (at value : ℕ) (d : DeviceValue) (regions : List Region)
    → Exact who d (written (pieces_of regions) at value d) (FailsBy who at value d) (KillsBy who at value d)
write_exact who at value d regions = elim (cases_eq at offset.dbgcmd) [
  | inr other ↦ exact_if_same who d (written (pieces_of regions) at value d) _ _ (others_keep who (pieces_of regions) at value d other) (λ up. other up.0)
      (λ down. other down.0)
  | inl dbgcmd ↦ subst (λ (j : ℕ). Exact who d (written (pieces_of regions) j value d) (FailsBy who j value d) (KillsBy who j value d)) (sym dbgcmd)
      (branch (λ (e : DeviceValue). Exact who d e (FailsBy who offset.dbgcmd value d) (KillsBy who offset.dbgcmd value d)) (value % 4 == 0)
      (debugged (pieces_of regions) d) d
      (λ even. debug_exact who (pieces_of regions) value d (eqb-true (value % 4) 0 even))
      (λ some. exact_if_same who d d _ _ refl (λ up. eqb-false (value % 4) 0 some up.1.command) (λ down. eqb-false (value % 4) 0 some down.1.0)))
]

-- ---- a call

pub answer_faults : (events : ℕ) (th : Thread) (last : Option ChanTurn) (signal : Option ℕ)
    → (is_faulting (answer events th last signal) ≡ true) ↔ LastFails events last signal
answer_faults events th last signal = grind (arith, nat_tests)

call_own : (marks : MarkList) (n : ℕ) (made : Bool) (most : ℕ) (s : Setup) → (made ≡ true → faults_at (TheChannel n) s.device ≡ false)
    → (faults_at (TheChannel n) (called_if made marks n most s).left.device ≡ true) ↔
    ((faults_at (TheChannel n) s.device ≡ true) ⊎ CallFails marks n made most s)
call_own marks n made most s fine = elim (call_is made marks n most s) [
  | inl rests ↦ rw (ap (λ (o : Outcome). faults_at (TheChannel n) o.left.device) rests.is) (same_or _ _ (λ does. rests.off does.0))
  | inr acts ↦
      let t = acts.thread in
      let is : faults_at (TheChannel n) (called_if made marks n most s).left.device ≡ is_faulting (thread_left marks most t s) =
      ap (λ (o : Outcome). faults_at (TheChannel n) o.left.device) (call_acts marks most acts)
      ∙ set_there s.device n t (thread_left marks most t s) acts.found in
      let w = answer_faults s.device.config.events
      (record t { channel = (machine_left marks most t s).channel; pc = (t.base + (machine_left marks most t s).channel.registers.pc) % 2 ^ 32 })
      (last_in marks most t s) (signal_in marks most t s) in (
        (λ high. inr (acts, w.0 (sym is ∙ high))),
        (λ why. elim why [
          | inl was ↦ absurd (true≢false (sym was ∙ fine acts.on))
          | inr does ↦ is ∙ w.1 (acts_alike (λ (u : Thread). LastFails s.device.config.events (last_in marks most u s) (signal_in marks most u s)) n made s
              does.0 acts does.1)
        ]),
      )
]

runs_fine : (o : Option Thread) → option_map_or runs o false ≡ true → faults_if o ≡ false
runs_fine o h = grind (arith, not-true, and_parts)

-- ---- a turn

-- a turn leaves a thread that it doesn't step
turn_leaves : (who : Who) (d e : DeviceValue) (regions left : List Region) (n most : ℕ) (turn : Turn) → TakesTurn d regions n most e left turn
    → who ≢ TheChannel n → faults_at who e ≡ faults_at who d
turn_leaves who d e regions left n most turn x other =
    turn_keeps x (λ (v : DeviceValue). faults_at who v ≡ faults_at who d)
    (λ made marks m s h. call_keeps (λ (v : DeviceValue). faults_at who v ≡ faults_at who d) made marks n m s h (λ acts.
    let flags = number_of (machine_left marks m acts.thread s).flags in
    elsewhere who (with_flags flags s.device) n (thread_left marks m acts.thread s) other ∙ same_parts who s.device (with_flags flags s.device) refl refl ∙ h))
    refl

turn_own : (d : DeviceValue) (regions : List Region) (n most : ℕ)
    → (faults_at (TheChannel n) (second_in d regions n most).left.device ≡ true) ↔ ((faults_at (TheChannel n) d ≡ true) ⊎ TurnFails d regions n most)
turn_own d regions n most =
    let marks = marks_in regions in
    let first = first_in d regions n most in
    let m = first.left.device in
    then_or _ _ _ _ _ (call_own marks n (begins d n most) most (setup_of d regions) (λ on. runs_fine (slice_get d.threads n) (begins_runs d n most on)))
    (call_own marks n (follows m n first.called) 1 first.left (λ on. runs_fine (slice_get m.threads n) (follows_runs m n first.called on)))

turn_exact : (who : Who) (n most : ℕ) (d e : DeviceValue) (regions left : List Region) (turn : Turn) → TakesTurn d regions n most e left turn
    → Exact who d e (Fails who (Turns n most) d regions) ⊥
turn_exact TheManager n most d e regions left turn x =
    exact_if_same TheManager d e ⊥ ⊥ (turn_leaves TheManager d e regions left n most turn x (λ same. cc)) (λ up. up) (λ down. down)
turn_exact (TheChannel m) n most d e regions left turn x = elim (cases_eq m n) [
  | inl same ↦
      subst (λ (j : ℕ). Exact (TheChannel j) d e ((j ≡ n) × TurnFails d regions n most) ⊥) (sym same)
      (history.exact_if_raised _ _ _ _ ⊥ (λ up. (refl, up)) (λ up. up.1) (λ down. down)
      (subst (λ (v : DeviceValue). (faults_at (TheChannel n) v ≡ true) ↔ ((faults_at (TheChannel n) d ≡ true) ⊎ TurnFails d regions n most)) (turn_device x)
      (turn_own d regions n most)))
  | inr other ↦ exact_if_same (TheChannel m) d e ((m ≡ n) × TurnFails d regions n most) ⊥
      (turn_leaves (TheChannel m) d e regions left n most turn x (λ same. other (cc))) (λ up. other up.0) (λ down. down)
]

-- ---- one access

none_faults : (bus : BusWidth) (n m : ℕ) → faults_if (slice_get (replicate m (reset_thread bus)) n) ≡ false
none_faults bus n zero = refl
none_faults bus zero (suc m) = refl
none_faults bus (suc n) (suc m) = none_faults bus n m

reset_fine : (who : Who) (g : Config) → faults_at who (reset_device g) ≡ false
reset_fine who g = grind (arith, none_faults)

reset_exact : (who : Who) (d e : DeviceValue) → e ≡ reset_device d.config → (Up : Type 0) → ¬ Up → Exact who d e Up (Unit {0})
reset_exact who d e is Up none = grind (arith, reset_fine)

restored_exact : (who : Who) (d e saved : DeviceValue) → e ≡ saved → Exact who d e (faults_at who saved ≡ true) (faults_at who saved ≡ false)
restored_exact who d e saved is = grind (arith, true_from_ne_false)

access_exact : (who : Who) (a : Access) (d e : DeviceValue) (regions left : List Region) (answer : Answer) → Does a d regions answer e left
    → Exact who d e (Fails who a d regions) (EndsFault who a d)
access_exact TheManager (Reads at) d e regions left answer x = exact_if_same TheManager d e ⊥ ⊥ (ap (faults_at TheManager) x.1) (λ up. up) (λ down. down)
access_exact who (Writes at value) d e regions left answer x =
    subst (λ (v : DeviceValue). Exact who d v (Fails who (Writes at value) d regions) (Kills who (Writes at value) d)) (sym x.1)
    (write_exact who at value d regions)
access_exact who (Turns n most) d e regions left answer x = turn_exact who n most d e regions left x.0 x.1.1
access_exact who Resets d e regions left answer x = reset_exact who d e x.1 ⊥ (λ up. up)
access_exact who (Restores saved) d e regions left answer x = restored_exact who d e saved x.1
access_exact who a d e regions left answer x = exact_if_same who d e ⊥ ⊥ (ap (faults_at who) x.1) (λ up. up) (λ down. down)

pub faults_are_exact : FaultsAreExact
faults_are_exact access answer before lent left count n who happen within =
    history.held (λ j. faults_at who (before j) ≡ true) (λ j. Fails who (access j) (before j) (lent j)) (λ j. EndsFault who (access j) (before j)) count
    (λ j less. access_exact who (access j) (before j) (before (j + 1)) (lent j) (left j) (answer j) (happen j less)) n within

-- ---- the line

any_index : (ts : List Thread) → list_any is_faulting ts ≡ true → (n : ℕ) × (faults_if (slice_get ts n) ≡ true)
any_index [] is = absurd (true≢false (sym is))
any_index (t ∷ ts) is = elim (or_cases (is_faulting t) (list_any is_faulting ts) is) [
  | inl here ↦ (0, here)
  | inr more ↦ let w = any_index ts more in (suc w.0, w.1)
]

any_from : (ts : List Thread) (n : ℕ) → faults_if (slice_get ts n) ≡ true → list_any is_faulting ts ≡ true
any_from [] n is = absurd (true≢false (sym is))
any_from (t ∷ ts) zero is = or_left (is_faulting t) (list_any is_faulting ts) is
any_from (t ∷ ts) (suc n) is = or_right (is_faulting t) (list_any is_faulting ts) (any_from ts n is)

line_is : (d : DeviceValue) → (irq_abort d ≡ true) ↔ ((who : Who) × (faults_at who d ≡ true))
line_is d = (
  (λ high. elim (or_cases d.manager.is_faulting (list_any is_faulting d.threads) high) [
    | inl manager ↦ (TheManager, manager)
    | inr some ↦ let w = any_index d.threads some in (TheChannel w.0, w.1)
  ]),
  (λ w. by w.0 w.1),
)
  where
    by : (who : Who) → faults_at who d ≡ true → irq_abort d ≡ true
    by TheManager is = or_left d.manager.is_faulting (list_any is_faulting d.threads) is
    by (TheChannel n) is = or_right d.manager.is_faulting (list_any is_faulting d.threads) (any_from d.threads n is)

bits_are : (ts : List Thread) (n : ℕ) → bit_at (faulting_bits ts) n ≡ flag (faults_if (slice_get ts n))
bits_are [] n = bit_at-zero n
bits_are (t ∷ ts) zero = bit_at_lowest (flag (is_faulting t) + 2 * faulting_bits ts) ∙ omega (arith, flag_few (is_faulting t))
bits_are (t ∷ ts) (suc n) =
    let half : (flag (is_faulting t) + 2 * faulting_bits ts) / 2 ≡ faulting_bits ts = omega (arith, flag_few (is_faulting t)) in
    bit_at-suc (flag (is_faulting t) + 2 * faulting_bits ts) n ∙ ap (λ (m : ℕ). bit_at m n) half ∙ bits_are ts n

pub abort_is_faulting : AbortIsFaulting
abort_is_faulting = record {
  line = line_is;
  fsrd = λ d. flag_is d.manager.is_faulting;
  fsrc = λ d n. (let w = flag_is (faults_at (TheChannel n) d) in let is = bits_are d.threads n in ((λ high. w.0 (sym is ∙ high)), (λ e. is ∙ w.1 e)));
  reset = λ g. list_any_none is_faulting (replicate g.channels (reset_thread g.bus))
      (All-replicate (λ (t : Thread). is_faulting t ≡ false) g.channels (reset_thread g.bus) refl);
}

-- a low line: no thread is faulting
low_none : (d : DeviceValue) (who : Who) → irq_abort d ≡ false → faults_at who d ≡ true → ⊥
low_none d who low is = true≢false (sym ((line_is d).1 (who, is)) ∙ low)

decide_write : (who : Who) (at value : ℕ) (d : DeviceValue) → KillsBy who at value d ⊎ (¬ KillsBy who at value d)
decide_write who at value d = grind (arith, decide_addresses who d)

-- what ends a fault, and leaves the line low, kills the thread, or ends each fault
ends_by : (who : Who) (a : Access) (d e : DeviceValue) (regions left : List Region) (answer : Answer) → Does a d regions answer e left → irq_abort e ≡ false
    → EndsFault who a d → EndsAll a ⊎ Kills who a d
ends_by who a d e regions left answer h1 h2 h3 = grind arith

kill_ends : (who : Who) (a : Access) (d : DeviceValue) → Kills who a d → EndsFault who a d
kill_ends who a d h1 = grind arith

is_low : (b : Bool) → (b ≡ false) ⊎ (¬ (b ≡ false))
is_low b = grind (arith)

decide_ends : (who : Who) (a : Access) (d : DeviceValue) → EndsFault who a d ⊎ (¬ EndsFault who a d)
decide_ends who (Writes at value) d = decide_write who at value d
decide_ends who Resets d = inl tt
decide_ends who (Restores saved) d = is_low (faults_at who saved)
decide_ends who a d = inr (λ w. w)

-- one debug instruction has one thread
kills_one : (who other : Who) (a : Access) (d : DeviceValue) → Kills who a d → Kills other a d → other ≡ who
kills_one who other a d h1 h2 = grind arith

-- what kills a thread makes none fail
kill_fails_none : (who other : Who) (a : Access) (d : DeviceValue) (regions : List Region) → Kills who a d → ¬ Fails other a d regions
kill_fails_none who other a d regions h1 = grind (arith, kill_passes)

-- after an access that leaves the line low, the fault of a thread that was faulting was ended
was_ended : (who : Who) (a : Access) (d e : DeviceValue) (regions left : List Region) (answer : Answer) → Does a d regions answer e left → irq_abort e ≡ false
    → faults_at who d ≡ true → EndsFault who a d
was_ended who a d e regions left answer x low is = elim (decide_ends who a d) [
  | inl ends ↦ ends
  | inr stays ↦ absurd (low_none e who low ((access_exact who a d e regions left answer x).1 (inr (is, stays))))
]

-- one that doesn't end each fault has killed it
was_killed : (who : Who) (a : Access) (d e : DeviceValue) (regions left : List Region) (answer : Answer) → ¬ EndsAll a → Does a d regions answer e left
    → irq_abort e ≡ false → faults_at who d ≡ true → Kills who a d
was_killed who a d e regions left answer other x low is = grind (arith, ends_by, was_ended)

-- after what ends each fault the line is low
all_low : (a : Access) (d e : DeviceValue) (regions left : List Region) (answer : Answer) → EndsAll a → Does a d regions answer e left → irq_abort e ≡ false
all_low a d e regions left answer h1 h2 = grind (arith, abort_is_faulting)

decide_all : (a : Access) → EndsAll a ⊎ (¬ EndsAll a)
decide_all a = grind (arith, is_low)

pub aborts_are_exact : AbortsAreExact
aborts_are_exact a d e regions left answer x = record {
  rises = λ low. (
    (λ high.
        let w = (line_is e).0 high in
        elim ((access_exact w.0 a d e regions left answer x).0 w.1) [
          | inl fails ↦ (w.0, fails)
          | inr was ↦ absurd (low_none d w.0 low was.0)
        ]),
    (λ w. (line_is e).1 (w.0, (access_exact w.0 a d e regions left answer x).1 (inl w.1))),
  );
  falls = λ high. (
    (λ low. elim (decide_all a) [
      | inl all ↦ inl all
      | inr other ↦
          let w = (line_is d).0 high in
          let kills = was_killed w.0 a d e regions left answer other x low w.1 in
          inr (w.0, kills, w.1, λ another is. kills_one w.0 another a d kills (was_killed another a d e regions left answer other x low is))
    ]),
    (λ why. elim why [
      | inl all ↦ all_low a d e regions left answer all x
      | inr w ↦ false_from_ne_true (irq_abort e) (λ still.
          let v = (line_is e).0 still in
          elim ((access_exact v.0 a d e regions left answer x).0 v.1) [
            | inl fails ↦ kill_fails_none w.0 v.0 a d regions w.1 fails
            | inr stays ↦
                let same : v.0 ≡ w.0 = w.3 v.0 stays.0 in
                stays.1 (kill_ends v.0 a d (subst (λ (u : Who). Kills u a d) (sym same) w.1))
          ])
    ]),
  );
}
