-- What each thread satisfies after a call too: it is sound, and the beats of its control word are no wider than its bus.
-- And events stay among those of the device.
use Rattle.std.proofs.Common.{◌≡◌, ◌∙◌, ℕ, zero, suc, ◌+◌, ◌-◌, ◌*◌, ◌%◌, ◌^◌, ◌<◌, ◌≤◌, Bool, true, false, ◌&&◌, true≢false, List, Option, Some, None, ap, get_or, inl, inr}
use Rattle.std.proofs.Common.{length, refl, replicate, sym, subst, arith, bit_and, Result}
use Rattle.std.specs.{Prelude.◌==◌, Prelude.is_some, Prelude.nat_le, Prelude.nat_lt, Prelude.not, Prelude.slice_get, Prelude.slice_set, Prelude.if◌then◌else◌, List.All, Vec.with_item, Vec.with_items}
use Rattle.std.proofs.lemmas.Bool.{and_parts, cases_lt, cond_both, eq-eqb, eqb-true, leb-true, lt-ltb, not-true}
use Rattle.std.proofs.lemmas.List.{drop_all, length-set, set_past, with_items_is}
use Rattle.std.proofs.lemmas.Nat.{and_le_l, and_le_r, pow_pos}
use Rattle.std.proofs.{Math.Nat.mod-le, Math.Pow.pow-lt, Math.Pow.pow_mono, lemmas.List.Elements.All-replicate, lemmas.List.Elements.All-set}
use Rattle.dma_mem.specs.Marking.{MarkList}
use Rattle.dma_chan.specs.Channel.{ChannelValue, after_turn, ahead_of, cost_of_program, last_count, step_of, stored_by}
use Rattle.dma_chan.specs.Stepping.{Machine, TakesSteps, after_step, after_steps, answer_at, goes_on_after}
use Rattle.dma_chan.specs.declared.turn.ChanTurn.TheVariants.{Moved, Waiting, Ended, Fault}
use Rattle.dma_chan.specs.{declared.bus.BusWidth.BusWidth, Programs.ProgramValue, declared.turn.ChanTurn.ChanTurn}
use Rattle.dma_chan.specs.{declared.turn.FaultKind.TheVariants.InstrFetchErr, declared.bus.Bus.Bus, declared.bus.Bus.TheVariants.Chip}
use Rattle.dma_chan.specs.{declared.exec.Registers.Registers, declared.turn.FaultKind.FaultKind, Bus.fits, Exec.fault_bit}
use Rattle.dma_chan.proofs.{StepsTaken.steps_counted, StepsTaken.steps_move, SteppedOver.was_moved, SteppedOver.went_before, SteppedOver.is_still}
use Rattle.dma_chan.proofs.{ActCases.IsAccepted, ActCases.fetched_cases, BusKept.steps_bus, MembersByNumber.ccr_looped}
use Rattle.dma_device.specs.Thread.{IsOn, IsSound, answer, answered, failed, has_fault, has_place, has_status, is_before_wait, is_faulting_status, killed, lockup_err, moved, operand_invalid}
use Rattle.dma_device.specs.Thread.{reset_thread, runs, started, waits_for}
use Rattle.dma_device.proofs.{Answered.answer_channel, Found.all_at}
use Rattle.dma_device.specs.{Config.is_valid, declared.config.Config.Config, declared.device.Device.TheInside.Inside, Snapshot.IsSoundHead, Snapshot.head_of}
use Rattle.dma_device.specs.{Device.DeviceValue, Device.has_ftrd, Device.with_thread, Idle.IsSoundDevice, inner.Fields.AreOn, inner.Fields.IsDevice, inner.Fields.device_value}
use Rattle.dma_device.specs.{declared.thread.Status.Status, declared.thread.Thread.Thread}
use Rattle.dma_device.specs.declared.thread.Status.TheVariants.{Executing, Faulting, Stopped, WaitingForEvent}
use Rattle.dma_insn.specs.declared.chip.ChipInsn.{ChipInsn}
use Rattle.dma_device.proofs.FlagSteps.{waits_at}
use Rattle.dma_chan.specs.Exec.{State, exec_fetched, moved as moved_registers, ChangesNothing}

-- ---- at the start

-- CCR after a reset
starts_fit : (bus : BusWidth) → fits (Chip bus) 0x00800200 ≡ true
starts_fit bus = grind (arith)

pub reset_is_on : (bus : BusWidth) → IsOn bus (reset_thread bus)
reset_is_on bus = record { width = refl; control = starts_fit bus }

-- ---- after a step

abbrev Keeps : State → ChanTurn × State → Type 0
Keeps s x = fits s.registers.bus s.registers.ccr ≡ true → fits s.registers.bus x.1.registers.ccr ≡ true

-- DMAMOV sets CCR to a word that is accepted.
moved_fits : (i : ChipInsn) (r : Registers) → IsAccepted i r → fits r.bus r.ccr ≡ true → fits r.bus (moved_registers i r).ccr ≡ true
moved_fits i r h1 h2 = grind (arith, ccr_looped)

fetched_fits : (marks : MarkList) (next : Result ChipInsn FaultKind) (s : State) → Keeps s (exec_fetched marks next s)
fetched_fits marks next s = grind (arith, fetched_cases, moved_fits)

turn_fits : (bus : Bus) (turn : ChanTurn) (s : State) (n : ℕ) (c : ChannelValue) → fits bus s.registers.ccr ≡ true → fits bus c.registers.ccr ≡ true
    → fits bus (after_turn turn s n c).registers.ccr ≡ true
turn_fits bus turn s n c h h2 = grind (arith)

pub steps_fit : (bus : Bus) (marks : MarkList) (s : Machine) (n : ℕ) → s.channel.registers.bus ≡ bus → fits bus s.channel.registers.ccr ≡ true
    → fits bus (after_steps marks s n).channel.registers.ccr ≡ true
steps_fit bus marks s zero on h = h
steps_fit bus marks s (suc n) on h =
    let u = after_steps marks s n in
    let c = u.channel in
    let x = step_of marks c u.image u.flags in
    let old : fits bus c.registers.ccr ≡ true = steps_fit bus marks s n on h in
    let here : c.registers.bus ≡ bus = steps_bus marks s n ∙ on in
    let new : fits c.registers.bus x.1.registers.ccr ≡ true = grind (arith, fetched_fits) in
    turn_fits bus x.0 x.1 (stored_by (ahead_of c) c.registers) c (ap (λ (b : Bus). fits b x.1.registers.ccr) (sym here) ∙ new) old

-- ---- a thread after a call

abbrev HasStatus : ℕ → Thread → Type 0
HasStatus events t = has_status events t t.status ≡ true

moved_status : (events : ℕ) (t : Thread) (signal : Option ℕ) → is_some t.channel.program ≡ true → HasStatus events (moved events t signal)
moved_status events t signal h1 = grind (arith, cond_both)

waits_status : (events e : ℕ) (t : Thread) (b : Bool) → nat_lt e events ≡ b → is_some t.channel.program ≡ true → is_before_wait e t ≡ true
    → HasStatus events (if b then record t { status = WaitingForEvent e } else failed operand_invalid t)
waits_status events e t b h h2 h3 = grind (arith)

-- after a step of a channel that has a program
by_turn : (events : ℕ) (t : Thread) (turn : ChanTurn) (signal : Option ℕ) (s : State) (n : ℕ) (c : ChannelValue) → is_some c.program ≡ true
    → t.channel ≡ after_turn turn s n c → ((e : ℕ) → turn ≡ Waiting e → is_before_wait e t ≡ true) → HasStatus events (answer events t (Some turn) signal)
by_turn events t turn signal s n c h1 h2 e = grind (arith, moved_status, waits_status)

moved_keeps : (turn : ChanTurn) (s : State) (n : ℕ) (c : ChannelValue) → turn ≡ Moved → (after_turn turn s n c).program ≡ c.program
moved_keeps turn s n c is = rw is refl

-- A step that moves keeps the program.
pub program_after : (marks : MarkList) (u : Machine) → answer_at marks u ≡ Moved → (after_step marks u).channel.program ≡ u.channel.program
program_after marks u moved = moved_keeps (answer_at marks u) _ _ u.channel moved

-- So the steps that others follow keep it.
pub program_kept : (marks : MarkList) (s : Machine) (j : ℕ) → ((k : ℕ) → k < suc j → goes_on_after marks s k ≡ true)
    → (after_steps marks s j).channel.program ≡ s.channel.program
program_kept marks s zero moves = refl
program_kept marks s (suc j) moves =
    let u = after_steps marks s j in
    let moved = was_moved (ahead_of u.channel) (answer_at marks u) (went_before marks s (suc j) (moves (suc j) (omega arith))) in
    program_after marks u moved ∙ program_kept marks s j (λ k l. moves k (omega arith))

-- A channel without a program fails to fetch.
unloaded_fails : (marks : MarkList) (s : Machine) → s.channel.program ≡ None → answer_at marks s ≡ Fault InstrFetchErr
unloaded_fails marks s none = grind (arith, drop_all)

-- a thread whose call's last step waits is before the DMAWFE
waits_before : (marks : MarkList) (u : Machine) (t : Thread) (e : ℕ) → answer_at marks u ≡ Waiting e → t.channel ≡ (after_step marks u).channel
    → u.channel.taken < last_count → t.pc ≡ (t.base + t.channel.registers.pc) % 2 ^ 32 → is_before_wait e t ≡ true
waits_before marks u t e waits is counts pc =
    let w = waits_at marks u e waits in
    let still : after_step marks u ≡ u = is_still marks u (subst ChangesNothing (sym waits) tt) in
    let same : t.channel ≡ u.channel = is ∙ ap (λ (m : Machine). m.channel) still in
    let next : waits_for e (ahead_of t.channel) ≡ true = ap (λ (c : ChannelValue). waits_for e (ahead_of c)) same ∙ ap (waits_for e) w.1.0 ∙ eq-eqb e e refl in
    let few : nat_lt t.channel.taken last_count ≡ true = lt-ltb t.channel.taken last_count (omega (arith, counts, ap (λ (c : ChannelValue). c.taken) same)) in
    rw (next, few) (eq-eqb t.pc ((t.base + t.channel.registers.pc) % 2 ^ 32) pc)

-- A thread is sound after a call of its channel, by whether that has a program.
by_program : (marks : MarkList) (s v : Machine) (most taken events : ℕ) (last : Option ChanTurn) (t : Thread) (signal : Option ℕ) (o : Option ProgramValue)
    → s.channel.program ≡ o → TakesSteps marks s most taken last v → t.channel ≡ v.channel → HasStatus events (answered events t last signal)
by_program marks s v most zero events last t signal o program x is = grind arith
by_program marks s v most (suc j) events last t signal (Some p) program x is =
    let u = after_steps marks s j in
    let here = ap (λ (q : Option ProgramValue). is_some q) (program_kept marks s j (steps_move x) ∙ program) in
    let ends = is ∙ ap (λ (m : Machine). m.channel) x.ends_at in
    subst (λ (l : Option ChanTurn). HasStatus events (answered events t l signal)) (sym x.answer)
    (by_turn events (record t { pc = (t.base + t.channel.registers.pc) % 2 ^ 32 }) (answer_at marks u) signal _ _ u.channel here ends
    (λ e waits. waits_before marks u (record t { pc = (t.base + t.channel.registers.pc) % 2 ^ 32 }) e waits ends (steps_counted x j (omega arith)) refl))
by_program marks s v most (suc zero) events last t signal None program x is = grind (arith, unloaded_fails)
by_program marks s v most (suc (suc j)) events last t signal None program x is =
    let fails = unloaded_fails marks s program in
    absurd (cc (was_moved (ahead_of s.channel) (answer_at marks s) (went_before marks s 1 (steps_move x 1 (omega arith))), fails))

-- ---- CPC, FTR and the cost

-- The address of the channel's next instruction, and that of a DMASEV before it.
next_placed : (n pc : ℕ) → pc ≡ n % 2 ^ 32 → pc % 2 ^ 32 ≡ n % 2 ^ 32
next_placed n pc is = omega arith

sev_placed : (n pc : ℕ) → pc ≡ n % 2 ^ 32 → ((pc + (2 ^ 32 - 2)) % 2 ^ 32 + 2) % 2 ^ 32 ≡ n % 2 ^ 32
sev_placed n pc is = omega arith

at_next : (t : Thread) → t.pc ≡ (t.base + t.channel.registers.pc) % 2 ^ 32 → has_place t ≡ true
at_next t is = rw (eq-eqb (t.pc % 2 ^ 32) ((t.base + t.channel.registers.pc) % 2 ^ 32) (next_placed (t.base + t.channel.registers.pc) t.pc is)) refl

at_sev : (t : Thread) → t.pc ≡ (t.base + t.channel.registers.pc) % 2 ^ 32
    → has_place (failed operand_invalid (record t { pc = (t.pc + (2 ^ 32 - 2)) % 2 ^ 32 })) ≡ true
at_sev t is = grind (arith, sev_placed, eq-eqb)

failed_place : (why : ℕ) (t : Thread) → (why == 0) ≡ false → has_place t ≡ true → has_place (failed why t) ≡ true
failed_place why t some h = grind arith

moved_place : (events : ℕ) (t : Thread) (signal : Option ℕ) → t.pc ≡ (t.base + t.channel.registers.pc) % 2 ^ 32 → has_place (moved events t signal) ≡ true
moved_place events t signal is = grind (arith, cond_both, at_next, at_sev)

fault_bits : (kind : FaultKind) → (2 ^ fault_bit kind == 0) ≡ false
fault_bits kind = grind arith

answer_place : (events : ℕ) (t : Thread) (last : Option ChanTurn) (signal : Option ℕ) → t.pc ≡ (t.base + t.channel.registers.pc) % 2 ^ 32
    → has_place (answer events t last signal) ≡ true
answer_place events t None signal is = at_next (failed lockup_err t) is
answer_place events t (Some Moved) signal is = moved_place events t signal is
answer_place events t (Some (Waiting e)) signal is = grind (arith, cond_both, at_next)
answer_place events t (Some Ended) signal is = at_next (record t { status = Stopped }) is
answer_place events t (Some (Fault kind)) signal is = at_next (failed (2 ^ fault_bit kind) t) is

abbrev HasFault : Thread → Type 0
HasFault t = has_fault t.status t.fault ≡ true

answer_fault : (events : ℕ) (t : Thread) (last : Option ChanTurn) (signal : Option ℕ) → t.fault ≡ 0 → HasFault (answer events t last signal)
answer_fault events t None signal clear = refl
answer_fault events t (Some Moved) None clear = rw clear refl
answer_fault events t (Some Moved) (Some e) clear = grind (arith, cond_both)
answer_fault events t (Some (Waiting e)) signal clear = grind (arith, cond_both)
answer_fault events t (Some Ended) signal clear = refl
answer_fault events t (Some (Fault kind)) signal clear = rw (fault_bits kind) refl

turn_cost : (turn : ChanTurn) (s : State) (n : ℕ) (c : ChannelValue) → cost_of_program c.program ≡ None
    → cost_of_program (after_turn turn s n c).program ≡ None
turn_cost turn s n c h = grind arith

-- A program without a known cost keeps none.
pub steps_cost : (marks : MarkList) (s : Machine) (n : ℕ) → cost_of_program s.channel.program ≡ None
    → cost_of_program (after_steps marks s n).channel.program ≡ None
steps_cost marks s zero h = h
steps_cost marks s (suc n) h =
    let u = after_steps marks s n in
    let c = u.channel in
    let x = step_of marks c u.image u.flags in
    turn_cost x.0 x.1 (stored_by (ahead_of c) c.registers) c (steps_cost marks s n h)

-- A thread is sound after a call of its channel, if FTR was 0 before it and its program had no known cost.
pub answered_sound : (marks : MarkList) (s v : Machine) (most taken events : ℕ) (last : Option ChanTurn) (t : Thread) (signal : Option ℕ)
    → TakesSteps marks s most taken last v → t.channel ≡ v.channel → t.fault ≡ 0 → cost_of_program s.channel.program ≡ None
    → IsSound events (answered events t last signal)
answered_sound marks s v most taken events last t signal x is clear cost =
    let at : Thread = record t { pc = (t.base + t.channel.registers.pc) % 2 ^ 32 } in
    let same = answer_channel events at last signal ∙ is ∙ ap (λ (m : Machine). m.channel) x.ends_at in
    record {
      status = by_program marks s v most taken events last t signal s.channel.program refl x is;
      place = answer_place events at last signal refl;
      fault = answer_fault events at last signal clear;
      cost = ap (λ (c : ChannelValue). cost_of_program c.program) same ∙ steps_cost marks s taken cost;
    }

-- ---- other threads

-- FTR is 0 while a thread with this status runs
status_clear : (events : ℕ) (t : Thread) (s : Status) → has_status events t s ≡ true → has_fault s t.fault ≡ true
    → (is_some t.channel.program && not (is_faulting_status s)) ≡ true → t.fault ≡ 0
status_clear events t Stopped status fault on =
    absurd (true≢false (sym (and_parts (is_some t.channel.program) _ on).0 ∙ not-true (is_some t.channel.program) status))
status_clear events t Executing status fault on = eqb-true t.fault 0 fault
status_clear events t (WaitingForEvent e) status fault on = eqb-true t.fault 0 fault
status_clear events t Faulting status fault on = absurd (true≢false (sym (and_parts (is_some t.channel.program) _ on).1))

pub runs_clear : (events : ℕ) (t : Thread) → IsSound events t → runs t ≡ true → t.fault ≡ 0
runs_clear events t h on = status_clear events t t.status h.status h.fault on

pub killed_sound : (events : ℕ) (t : Thread) → IsSound events t → IsSound events (killed t)
killed_sound events t h = record { status = refl; place = h.place; fault = refl; cost = refl }

pub failed_sound : (events why : ℕ) (t : Thread) → (why == 0) ≡ false → IsSound events t → IsSound events (failed why t)
failed_sound events why t some h = record { status = refl; place = failed_place why t some h.place; fault = rw some refl; cost = h.cost }

pub started_sound : (events : ℕ) (nonsecure : Bool) (base : ℕ) (program : List ℕ) (t : Thread) → IsSound events (started nonsecure base program t)
started_sound events nonsecure base program t = record {
  status = refl;
  place = grind (arith);
  fault = refl;
  cost = refl;
}

-- ---- events

-- the events that a device has, of some
pub and_known : (a n : ℕ) → bit_and a (2 ^ n - 1) < 2 ^ n
and_known a n = omega (arith, and_le_r a (2 ^ n - 1), pow_pos n)

pub and_fewer : (a b n : ℕ) → a < 2 ^ n → bit_and a b < 2 ^ n
and_fewer a b n less = omega (arith, and_le_l a b)

-- the event of a DMASEV
pub one_event : (k n : ℕ) → k < n → 1 * 2 ^ k % 4294967296 < 2 ^ n
one_event k n less = omega (arith, mod-le (1 * 2 ^ k) 4294967296, pow-lt {i = k} {j = n} less)

-- A device has at most 32 events.
pub few_events : (g : Config) → is_valid g ≡ true → g.events ≤ 32
few_events g h = grind (arith, leb-true)

-- and at most 8 channels
pub few_channels : (g : Config) → is_valid g ≡ true → g.channels ≤ 8
few_channels g h = leb-true g.channels 8 (and_parts (nat_le g.channels 8) _ (and_parts (nat_le 1 g.channels) _ h).1).0

-- So a word of events has 32 bits.
pub fits_word : (a n : ℕ) → n ≤ 32 → a < 2 ^ n → a < 2 ^ 32
fits_word a n few less = omega (arith, pow_mono {i = n} {j = 32} few)

-- ---- a device's value

-- each thread of a sound device is sound
pub sound_at : (d : DeviceValue) (n : ℕ) (t : Thread) → IsSoundDevice d → slice_get d.threads n ≡ Some t → IsSound d.config.events t
sound_at d n t h found = all_at (IsSound d.config.events) d.threads n t h.threads found

pub thread_sound : (d : DeviceValue) (n : ℕ) (t : Thread) → IsSoundDevice d → IsSound d.config.events t → IsSoundDevice (with_thread n t d)
thread_sound d n t h sound = record {
  few = h.few;
  known = record { events = h.known.events; interrupts = h.known.interrupts; inten = h.known.inten; manager = h.known.manager };
  threads = All-set (IsSound d.config.events) d.threads n t sound h.threads;
}

-- other events, manager and debug registers
pub same_threads : (d e : DeviceValue) → IsSoundDevice d → e.config ≡ d.config → e.threads ≡ d.threads → e.events < 2 ^ d.config.events
    → e.interrupts < 2 ^ d.config.events → e.inten < 2 ^ d.config.events → has_ftrd e.manager ≡ true → IsSoundDevice e
same_threads d e h config threads events interrupts inten manager = grind arith

-- ---- a device's fields

pub reset_is_sound : (events : ℕ) (bus : BusWidth) → IsSound events (reset_thread bus)
reset_is_sound events bus = record { status = refl; place = refl; fault = refl; cost = refl }

pub all_reset : (bus : BusWidth) (events n : ℕ) → All (IsSound events) (replicate n (reset_thread bus))
all_reset bus events n = All-replicate (IsSound events) n (reset_thread bus) (reset_is_sound events bus)

pub are_on : (bus : BusWidth) (ts : List Thread) → All (IsOn bus) ts → AreOn bus ts
unfolding AreOn
are_on bus ts h = h

pub on_of : (bus : BusWidth) (ts : List Thread) → AreOn bus ts → All (IsOn bus) ts
unfolding AreOn
on_of bus ts h = h

pub reset_on : (bus : BusWidth) (n : ℕ) → AreOn bus (replicate n (reset_thread bus))
unfolding AreOn
reset_on bus n = All-replicate (IsOn bus) n (reset_thread bus) (reset_is_on bus)

-- a thread is replaced by one for which a fact holds if it holds for the old one
all_kept : (P : Thread → Type 0) (ts : List Thread) (n : ℕ) (old new : Thread) → All P ts → old ≡ get_or ts n old → (P old → P new) → All P (slice_set ts n new)
all_kept P ts n old new h is kept = elim (cases_lt n (length ts)) [
  | inl within ↦ All-set P ts n new (kept (subst P (sym is) (h n old within))) h
  | inr past ↦ subst (All P) (sym (set_past ts n new past)) h
]

on_kept : (bus : BusWidth) (ts : List Thread) (n : ℕ) (old new : Thread) → AreOn bus ts → old ≡ get_or ts n old → (IsOn bus old → IsOn bus new)
    → AreOn bus (slice_set ts n new)
unfolding AreOn
on_kept bus = all_kept (IsOn bus)

-- a thread is replaced by one on its bus that is sound
pub with_new : (d : Inside) (n : ℕ) (old new : Thread) → IsDevice d → old ≡ get_or d.threads.items n old → (IsOn d.config.bus old → IsOn d.config.bus new)
    → (IsSound d.config.events old → IsSound d.config.events new) → IsDevice (record d { threads = with_item d.threads n new })
with_new d n old new h is kept sound = record {
  config = h.config;
  count = length-set d.threads.items n new ∙ h.count;
  sound = record {
    few = h.sound.few;
    known = h.sound.known;
    threads = all_kept (IsSound d.config.events) d.threads.items n old new h.sound.threads is sound;
  };
  on = on_kept d.config.bus d.threads.items n old new h.on is kept;
  marks = h.marks;
}

-- all threads, the manager and the registers are replaced
pub with_parts : (d e : Inside) (ts : List Thread) → IsDevice d → e.threads ≡ with_items d.threads ts → e.config ≡ d.config → e.no_marks ≡ d.no_marks
    → length ts ≡ d.threads.len → length ts ≡ length d.threads.items → All (IsSound d.config.events) ts → AreOn d.config.bus ts
    → IsSoundHead (head_of (device_value e)) → IsDevice e
with_parts d e ts h threads config marks len count sound on known = grind (arith, with_items_is)

-- the events change
pub with_events : (d : Inside) (events interrupts inten : ℕ) → IsDevice d → events < 2 ^ d.config.events → interrupts < 2 ^ d.config.events
    → inten < 2 ^ d.config.events → IsDevice (record d { events = events; interrupts = interrupts; inten = inten })
with_events d events interrupts inten h a b c = grind (arith, same_threads)
