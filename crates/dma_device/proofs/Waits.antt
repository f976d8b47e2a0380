-- A call of a thread that waits by its status, for an event that it doesn't see, does nothing. One of a thread that
-- begins to wait changes its status and CPC.
use Rattle.std.proofs.Common.{is_some, ◌≡◌, ◌∙◌, ℕ, zero, suc, ◌+◌, ◌%◌, ◌^◌, ◌<◌, ◌≤◌, Bool, true, false, ◌&&◌, List, get_or, map, Option, Some, None, Result}
use Rattle.std.proofs.Common.{Ok, ap, refl, sym, arith, inl, inr, true≢false, bit_and, bit_or, w32}
use Rattle.std.specs.{Prelude.nat_eq, Prelude.nat_lt, Prelude.not, Prelude.slice_get, Int.bit_at, Int.bit_not, List.list_any, Option.option_map_or}
use Rattle.std.proofs.lemmas.Bool.{cases_lt, eq-eqb, eqb-true, lt-ltb, and_parts, ne_eqb, not-true}
use Rattle.std.proofs.lemmas.Nat.Bits.{bit_at-lt, bit_at_above, bit_at_and, bit_at_not, bit_at_ones, bit_at_or, same_from_bits_below}
use Rattle.std.proofs.{Math.Pow.pow_mono, lemmas.Nat.and_le_l, lemmas.Nat.or_lt}
use Rattle.dma_insn.specs.{ControlWord.flag, declared.chip.ChipInsn.ChipInsn, declared.chip.ChipInsn.TheVariants.Wfe}
use Rattle.dma_mem.specs.Regions.{image_of, pieces_of, read_only_of}
use Rattle.dma_mem.specs.{Marking.MarkList, declared.regions.Region.Region}
use Rattle.dma_mem.proofs.FlagBits.{get_or_flags_of}
use Rattle.dma_chan.specs.Stepping.{Machine, TakesSteps, answer_at, signal_after, written_after}
use Rattle.dma_chan.specs.Written.{range_at}
use Rattle.dma_chan.specs.{Channel.ahead_of, Channel.last_count, LentRegions.segment_of, declared.turn.ChanTurn.ChanTurn}
use Rattle.dma_chan.specs.{declared.turn.ChanTurn.TheVariants.Waiting, declared.turn.FaultKind.FaultKind}
use Rattle.dma_chan.proofs.{StepsTaken.steps_move, StepsTaken.steps_stop, SteppedOver.is_still, SteppedOver.was_moved, SteppedOver.went_before}
use Rattle.dma_device.specs.CallSteps.{StepsThread, first_in, last_in, marks_in}
use Rattle.dma_device.specs.Device.{DeviceValue, all_events, irq_abort, irqs, with_thread}
use Rattle.dma_device.specs.Thread.{IsSound, answered, can_step, has_status, is_faulting, is_signalled, runs, waits_for}
use Rattle.dma_device.specs.Turns.{Outcome, Setup, TakesTurn, begins, called_if, idle, lines_differ, machine_in, runs_at, setup_of, stepped, steps_in}
use Rattle.dma_device.specs.Turns.{visible_events, with_flags}
use Rattle.dma_device.specs.{declared.device.turns.Called.Called, declared.device.turns.Turn.Turn, declared.thread.Status.Status}
use Rattle.dma_device.specs.{declared.thread.Status.TheVariants.WaitingForEvent, declared.thread.Thread.Thread, Accesses.AreAlike, Events.IsVisible}
use Rattle.dma_device.specs.{Idle.IsSoundDevice, Idle.WaitsInVain, Idle.no_turn, Idle.waiting, Run.put_from}
use Rattle.dma_device.proofs.Calls.{call_acts, call_is, machine_left, runs_found, stepped_is, takes}
use Rattle.dma_device.proofs.{Runs.put_is, Found.all_at, Found.any_at, Found.any_set, Found.put_back, Interrupts.seen_bit}
use borrow.Author.Tests.{ltb-true}

-- ---- a thread that waits

-- a thread's next instruction is a DMAWFE of an event whose flag is clear
pub record AtWait (events flags : ℕ) (t : Thread) : Type 0 where
  pub event : ℕ
  pub invalid : Bool
  pub clear : nat_eq (bit_at flags event) 1 ≡ false
  pub known : event < events
  pub next : ahead_of t.channel ≡ Ok (Wfe event invalid)
  pub few : t.channel.taken < last_count

-- it waits for the event by its status
pub record Waits (events flags : ℕ) (t : Thread) : Type 0 where
  pub at : AtWait events flags t
  pub status : t.status ≡ WaitingForEvent at.event
  pub here : t.pc ≡ (t.base + t.channel.registers.pc) % 2 ^ 32

pub is_wfe : (next : Result ChipInsn FaultKind) (e : ℕ) → waits_for e next ≡ true → (v : Bool) × (next ≡ Ok (Wfe e v))
is_wfe next e h = grind (arith, eqb-true)

waits_by : (events flags : ℕ) (t : Thread) (s : Status) → t.status ≡ s → has_status events t s ≡ true → is_signalled flags s ≡ false → Waits events flags t
waits_by events flags t (WaitingForEvent e) h1 h2 h3 =
    let loaded = and_parts (is_some t.channel.program) _ h2 in
    let known = and_parts (nat_lt e events) _ loaded.1 in
    let before = and_parts (waits_for e (ahead_of t.channel)) _ known.1 in
    let counts = and_parts (nat_lt t.channel.taken last_count) _ before.1 in
    let w = is_wfe (ahead_of t.channel) e before.0 in
    record {
      at = record { event = e; invalid = w.0; clear = h3; known = ltb-true e events known.0; next = w.1; few = ltb-true t.channel.taken last_count counts.0 };
      status = h1;
      here = eqb-true t.pc ((t.base + t.channel.registers.pc) % 2 ^ 32) counts.1;
    }
waits_by events flags t s h1 h2 h3 = absurd (true≢false h3)

-- a thread that runs and can't step waits
pub idle_waits : (events flags : ℕ) (t : Thread) → IsSound events t → runs t ≡ true → can_step flags t ≡ false → Waits events flags t
idle_waits events flags t sound on idle = waits_by events flags t t.status refl sound.status (sym (ap (λ (b : Bool). b && is_signalled flags t.status) on) ∙ idle)

-- ---- its steps

wait_answers : (marks : MarkList) (s : Machine) (e : ℕ) (v : Bool) → ahead_of s.channel ≡ Ok (Wfe e v) → get_or s.flags e false ≡ false
    → answer_at marks s ≡ Waiting e
wait_answers marks s e v next clear = grind arith

-- a call of a machine that waits is one step, and changes nothing
record Still (marks : MarkList) (s w : Machine) (e taken : ℕ) (last : Option ChanTurn) : Type 0 where
  one : taken ≡ 1
  machine : w ≡ s
  answer : last ≡ Some (Waiting e)
  signal : signal_after marks s taken ≡ None
  written : written_after marks s taken ≡ range_at 0 0

still_call : (marks : MarkList) (s w : Machine) (most taken e : ℕ) (v : Bool) (last : Option ChanTurn) → 0 < most → TakesSteps marks s most taken last w
    → ahead_of s.channel ≡ Ok (Wfe e v) → s.channel.taken < last_count → answer_at marks s ≡ Waiting e → Still marks s w e taken last
still_call marks s w most zero e v last some x next few waits =
    elim (steps_stop x) [
      | inl all ↦ absurd (omega arith)
      | inr other ↦ elim other [
        | inl over ↦ absurd (true≢false over)
        | inr full ↦
            let same : w.channel.taken ≡ s.channel.taken = ap (λ (m : Machine). m.channel.taken) x.ends_at in
            absurd (omega arith)
      ]
    ]
still_call marks s w most (suc zero) e v last some x next few waits = grind (arith, is_still)
still_call marks s w most (suc (suc j)) e v last some x next few waits =
    absurd (cc (was_moved (ahead_of s.channel) (answer_at marks s) (went_before marks s 1 (steps_move x 1 (omega arith))), waits))

-- ---- the device

-- the events that a channel sees, written back, change nothing
pub events_back : (d : DeviceValue) → IsSoundDevice d → with_flags (visible_events d) d ≡ d
events_back d h =
    let n = d.config.events in
    let e = d.events in
    let i = d.inten in
    let off = bit_not w32 i in
    let known = bit_and (visible_events d) (all_events d) in
    let all : 2 ^ n ≤ 2 ^ 32 = pow_mono {i = n} {j = 32} h.few in
    let i_few : i < 2 ^ 32 = omega (arith, h.known.inten) in
    let k_few : known < 2 ^ 32 = omega (arith, and_le_l (visible_events d) (all_events d), and_le_l e off, h.known.events) in
    let events : bit_or (bit_and e i) (bit_and known off) ≡ e = same_from_bits_below 32 (bit_or (bit_and e i) (bit_and known off)) e
    (or_lt 32 (bit_and e i) (bit_and known off) (omega (arith, and_le_l e i, h.known.events)) (omega (arith, and_le_l known off)))
    (omega (arith, h.known.events)) (λ j less.
    simp (bit_at_or, bit_at_and, bit_at_not) (elim (cases_lt j n) [
      | inl below ↦ omega (arith, bit_at_ones n j below, bit_at-lt e j, bit_at-lt i j)
      | inr above ↦ omega (arith, bit_at_above e n j h.known.events above)
    ])) in
    let raised : bit_or d.interrupts (bit_and known i) ≡ d.interrupts = same_from_bits_below 32 (bit_or d.interrupts (bit_and known i)) d.interrupts
    (or_lt 32 d.interrupts (bit_and known i) (omega (arith, h.known.interrupts)) (omega (arith, and_le_l known i))) (omega (arith, h.known.interrupts))
    (λ j less.
    simp (bit_at_or, bit_at_and, bit_at_not) (omega (arith, bit_at-lt i j))) in
    rw (events, raised) refl

-- the thread after such a call
waits_now : (events : ℕ) (t : Thread) (e : ℕ) → e < events → answered events (record t { channel = t.channel }) (Some (Waiting e)) None ≡ waiting e t
waits_now events t e known = rw (lt-ltb e events known) refl

-- it is the same if it waits by its status
same_thread : (events flags : ℕ) (t : Thread) (w : Waits events flags t) → waiting w.at.event t ≡ t
same_thread events flags t w = rw (sym w.here, sym w.status) refl

pub alike_is : (regions left : List Region) → map segment_of left ≡ map segment_of regions → read_only_of left ≡ read_only_of regions
    → image_of (pieces_of left) ≡ image_of (pieces_of regions) → AreAlike left regions
alike_is regions left places access image = record {
  pieces = sym (put_is 0 regions left places) ∙ ap (λ (i : List ℕ). put_from 0 i (pieces_of regions)) image ∙ put_is 0 regions regions refl;
  read_only = access;
}

-- what a call reports that writes nothing, sets no flag and takes this number of steps
abbrev quiet : ℕ → Called
quiet taken = record { written = range_at 0 0; signal = None; taken = taken }

-- what a call leaves that changes nothing and takes this number of steps
abbrev rested : ℕ → Setup → Outcome
rested taken s = record { left = s; called = quiet taken }

-- what a call leaves that begins to wait
abbrev wait_of : ℕ → ℕ → Thread → Setup → Outcome
wait_of n e t s = rested 1 (record { device = with_thread n (waiting e t) s.device; image = s.image })

only_waits : (marks : MarkList) (n most : ℕ) (t : Thread) (s : Setup) → IsSoundDevice s.device → 0 < most
    → (w : AtWait s.device.config.events (visible_events s.device) t) → stepped marks n most t s ≡ wait_of n w.event t s
only_waits marks n most t s h some w =
    let d = s.device in
    let from = machine_in s t in
    let count = steps_in marks most t s in
    let below : w.event < 32 = omega (arith, h.few, w.known) in
    let clear : get_or from.flags w.event false ≡ false = get_or_flags_of (visible_events d) w.event below ∙ w.clear in
    let still = still_call marks from (machine_left marks most t s) most count w.event w.invalid (last_in marks most t s) some (takes marks most t s) w.next
    w.few (wait_answers marks from w.event w.invalid w.next clear) in
    let seen = visible_events d in
    let all : 2 ^ d.config.events ≤ 2 ^ 32 = pow_mono {i = d.config.events} {j = 32} h.few in
    let few : seen < 2 ^ 32 = omega (arith, and_le_l d.events (bit_not w32 d.inten), h.known.events) in
    let waits : TakesSteps marks from most count (Some (Waiting w.event)) from = grind (arith) in
    stepped_is marks most t s n seen from (Some (Waiting w.event)) (quiet count) few refl waits (sym still.signal) (sym still.written)
    ∙ ap (λ (u : Thread). rested count (record { device = with_thread n u (with_flags seen d); image = s.image })) (waits_now d.config.events t w.event w.known)
    ∙ ap (λ (f : DeviceValue). rested count (record { device = with_thread n (waiting w.event t) f; image = s.image })) (events_back d h)
    ∙ ap (λ (k : ℕ). rested k (record { device = with_thread n (waiting w.event t) d; image = s.image })) still.one

waits_still : (marks : MarkList) (n most : ℕ) (t : Thread) (s : Setup) → IsSoundDevice s.device → slice_get s.device.threads n ≡ Some t → 0 < most
    → Waits s.device.config.events (visible_events s.device) t → stepped marks n most t s ≡ rested 1 s
waits_still marks n most t s h found some w =
    let d = s.device in
    only_waits marks n most t s h some w.at ∙ simp (same_thread d.config.events (visible_events d) t w, put_back d.threads n t found)

-- the thread of a call waits
waits_here : (d : DeviceValue) (n : ℕ) (t : Thread) → IsSoundDevice d → list_any (can_step (visible_events d)) d.threads ≡ false
    → slice_get d.threads n ≡ Some t → runs_at d n ≡ true → Waits d.config.events (visible_events d) t
waits_here d n t h idle found on =
    idle_waits d.config.events (visible_events d) t (all_at (IsSound d.config.events) d.threads n t h.threads found) (sym (runs_found d n t found) ∙ on)
    (any_at (can_step (visible_events d)) d.threads n t idle found)

by_runs : (o : Option Thread) → option_map_or runs o false ≡ true → (t : Thread) × (o ≡ Some t)
by_runs o h = grind (arith)

call_rests : (made : Bool) (marks : MarkList) (n most : ℕ) (s : Setup) → IsSoundDevice s.device
    → list_any (can_step (visible_events s.device)) s.device.threads ≡ false → (made ≡ true → (0 < most) × (runs_at s.device n ≡ true))
    → called_if made marks n most s ≡ rested (flag made) s
call_rests made marks n most s h h2 h3 = grind (arith, call_is, by_runs, call_acts, waits_still, waits_here)

-- ---- a turn

lines_same : (d : DeviceValue) → lines_differ d d ≡ false
lines_same d = rw (eq-eqb (irqs d) (irqs d) refl, eq-eqb (flag (irq_abort d)) (flag (irq_abort d)) refl) refl

-- no line changes with a thread that is faulting if it was
pub lines_kept : (d : DeviceValue) (n : ℕ) (t u : Thread) → slice_get d.threads n ≡ Some t → is_faulting u ≡ is_faulting t
    → lines_differ d (with_thread n u d) ≡ false
lines_kept d n t u found same = rw (any_set is_faulting d.threads n t u found same) (lines_same d)

pub record Rests (d : DeviceValue) (regions : List Region) (taken : ℕ) (e : DeviceValue) (left : List Region) (turn : Turn) : Type 0 where
  pub device : e ≡ d
  pub alike : AreAlike left regions
  pub report : turn ≡ no_turn taken

-- a turn whose first call leaves this device, and changes nothing else
quiet_turn : (d f : DeviceValue) (regions : List Region) (n most : ℕ) (e : DeviceValue) (left : List Region) (turn : Turn) (taken : ℕ)
    → lines_differ d f ≡ false → first_in d regions n most ≡ rested taken (setup_of f regions) → TakesTurn d regions n most e left turn
    → Rests f regions taken e left turn
quiet_turn d f regions n most e left turn taken same is x = grind (arith, alike_is)

pub turn_rests : (d : DeviceValue) (regions : List Region) (n most : ℕ) (e : DeviceValue) (left : List Region) (turn : Turn) → IsSoundDevice d
    → list_any (can_step (visible_events d)) d.threads ≡ false → TakesTurn d regions n most e left turn → Rests d regions (flag (begins d n most)) e left turn
turn_rests d regions n most e left turn h none =
    quiet_turn d d regions n most e left turn (flag (begins d n most)) (lines_same d)
    (call_rests (begins d n most) (marks_in regions) n most (setup_of d regions) h none (λ on.
    let both = and_parts (nat_lt 0 most) (runs_at d n) on in (ltb-true 0 most both.0, both.1)))

-- ---- a turn at a DMAWFE that waits

-- channels don't see its event
unseen_clear : (d : DeviceValue) (event : ℕ) → IsSoundDevice d → event < d.config.events → ¬ IsVisible d event
    → nat_eq (bit_at (visible_events d) event) 1 ≡ false
unseen_clear d event h known unseen = grind (arith, ne_eqb, pow_mono, seen_bit, bit_at-lt)

pub waits_in_vain : WaitsInVain
waits_in_vain d e regions left n most event turn t x h w some =
    let marks = marks_in regions in
    let s = setup_of d regions in
    let at : AtWait d.config.events (visible_events d) t = grind (arith, unseen_clear) in
    let starts : begins d n most ≡ true = ap (λ (b : Bool). b && runs_at d n) (lt-ltb 0 most some) ∙ runs_found d n t w.found ∙ w.running in
    let one : StepsThread (begins d n most) n s = record { on = starts; thread = t; found = w.found } in
    -- a thread that begins to wait isn't faulting, and wasn't
    let fine : is_faulting t ≡ false = not-true (is_faulting t) (and_parts (is_some t.channel.program) (not (is_faulting t)) w.running).1 in
    let rests = quiet_turn d (with_thread n (waiting event t) d) regions n most e left turn 1 (lines_kept d n t (waiting event t) w.found (sym fine))
    (call_acts marks most one ∙ only_waits marks n most t s h some at) x in
    (rests.device, rests.alike, rests.report)
