-- A turn of a thread that can step changes the device.
use Rattle.std.proofs.Common.{◌≡◌, ◌≢◌, ◌∙◌, ◌⊎◌, ℕ, zero, suc, ◌+◌, ◌%◌, ◌^◌, ◌<◌, ◌≤◌, Bool, true, false, ◌&&◌, List, get_or, Option, Some, None, Result}
use Rattle.std.proofs.Common.{ap, refl, sym, subst, arith, inl, inr, true≢false}
use Rattle.std.specs.{Prelude.nat_eq, Prelude.nat_lt, Prelude.slice_get, Int.bit_at}
use Rattle.std.proofs.lemmas.Bool.{and_parts, lt-ltb}
use Rattle.dma_insn.specs.{declared.chip.ChipInsn.ChipInsn}
use Rattle.dma_mem.specs.{Flags.flags_of, Marking.MarkList}
use Rattle.dma_mem.proofs.FlagBits.{get_or_flags_of}
use Rattle.dma_chan.specs.Channel.{ChannelValue, after_turn, ahead_of, state_of, step_of, stored_by}
use Rattle.dma_chan.specs.Stepping.{Machine, TakesSteps, after_step, after_steps, answer_at, signal_after, signal_of}
use Rattle.dma_chan.specs.declared.turn.ChanTurn.TheVariants.{Moved, Waiting, Ended, Fault}
use Rattle.dma_chan.specs.{Exec.State, Exec.exec_fetched, declared.turn.ChanTurn.ChanTurn, declared.turn.FaultKind.FaultKind}
use Rattle.dma_chan.proofs.{StepsTaken.steps_move, SteppedOver.was_moved, SteppedOver.went_before}
use Rattle.dma_device.specs.Turns.{Outcome, Setup, begins, called_if, follows, machine_in, runs_at, setup_of, steps_in, visible_events}
use Rattle.dma_device.specs.{declared.thread.Status.TheVariants.Faulting, declared.thread.Status.TheVariants.WaitingForEvent, declared.thread.Thread.Thread}
use Rattle.dma_device.specs.{CallSteps.StepsThread, CallSteps.first_in, CallSteps.last_in, CallSteps.marks_in, CallSteps.signal_in, Device.DeviceValue}
use Rattle.dma_device.specs.{Idle.TurnChanges, Thread.answer, Thread.can_step, Thread.is_signalled, Thread.runs, Thread.waited}
use Rattle.dma_device.proofs.Calls.{call_acts, call_keeps, machine_left, runs_found, takes, thread_left, turn_device}
use Rattle.dma_device.proofs.{Answered.answer_channel, FlagSteps.waits_at, Found.set_found}

-- ---- the count of instructions

turn_counts : (turn : ChanTurn) (s : State) (n : ℕ) (c : ChannelValue) → c.taken ≤ (after_turn turn s n c).taken
turn_counts turn s n c = grind arith

step_counts : (marks : MarkList) (s : Machine) → s.channel.taken ≤ (after_step marks s).channel.taken
step_counts marks s = turn_counts (answer_at marks s) (step_of marks s.channel s.image s.flags).1 (stored_by (ahead_of s.channel) s.channel.registers) s.channel

-- it never falls
never_falls : (marks : MarkList) (s : Machine) (j : ℕ) → s.channel.taken ≤ (after_steps marks s j).channel.taken
never_falls marks s zero = omega arith
never_falls marks s (suc j) = omega (arith, never_falls marks s j, step_counts marks (after_steps marks s j))

-- it rises in a step that moves or ends
turn_rises : (turn : ChanTurn) (s : State) (n : ℕ) (c : ChannelValue) → (turn ≡ Moved) ⊎ (turn ≡ Ended) → c.taken < (after_turn turn s n c).taken
turn_rises turn s n c is = grind arith

step_rises : (marks : MarkList) (s : Machine) → (answer_at marks s ≡ Moved) ⊎ (answer_at marks s ≡ Ended) → s.channel.taken < (after_step marks s).channel.taken
step_rises marks s is = grind (arith, turn_rises)

pub all_rise : (marks : MarkList) (s : Machine) (j : ℕ) → answer_at marks s ≡ Moved → s.channel.taken < (after_steps marks s (suc j)).channel.taken
all_rise marks s zero moved = step_rises marks s (inl moved)
all_rise marks s (suc j) moved = omega (arith, all_rise marks s j moved, step_counts marks (after_steps marks s (suc j)))

-- ---- a step that doesn't move sets no flag

silent : (marks : MarkList) (next : Result ChipInsn FaultKind) (s : State) → (exec_fetched marks next s).0 ≢ Moved → signal_of next ≡ None
silent marks next s h = grind (arith)

-- ---- a call

fine_status : (t : Thread) → runs t ≡ true → t.status ≢ Faulting
fine_status t on is = grind arith

waited_is : (events : ℕ) (t : Thread) (e : ℕ) (b : Bool) → nat_lt e events ≡ b → ((waited events t e).status ≡ Faulting)
    ⊎ (((waited events t e).status ≡ WaitingForEvent e) × (e < events))
waited_is events t e b h = grind (arith)

-- what a call makes of a thread: more instructions are counted, or it has another status and set no flag
abbrev Differs : Thread → Thread → Option ℕ → Type 0
Differs t u signal = (t.channel.taken < u.channel.taken) ⊎ ((u.status ≢ t.status) × (signal ≡ None))

abbrev taken : ChannelValue → ℕ
taken c = c.taken

-- the one step of a call
by_turn : (events seen : ℕ) (t at : Thread) (s : Machine) (marks : MarkList) (turn : ChanTurn) → events ≤ 32 → can_step seen t ≡ true → s.channel ≡ t.channel
    → s.flags ≡ flags_of seen → at.channel ≡ (after_step marks s).channel → answer_at marks s ≡ turn
    → Differs t (answer events at (Some turn) (signal_of (ahead_of s.channel))) (signal_of (ahead_of s.channel))
by_turn events seen t at s marks Moved few can same flags is answers = grind (arith, step_rises, answer_channel)
by_turn events seen t at s marks Ended few can same flags is answers = inl (omega (arith, step_rises marks s (inr answers), ap taken same, ap taken is))
by_turn events seen t at s marks (Fault kind) few can same flags is answers = grind (arith, and_parts, fine_status, silent)
by_turn events seen t at s marks (Waiting e) few can same flags is answers =
    let parts = and_parts (runs t) (is_signalled seen t.status) can in
    let quiet = silent marks (ahead_of s.channel) (state_of s.channel s.image s.flags) (λ moved. cc (moved, answers)) in
    elim (waited_is events at e (nat_lt e events) refl) [
      | inl fails ↦ inr ((λ i. fine_status t parts.0 (sym i ∙ fails)), quiet)
      | inr waits ↦ inr (
        (λ i.
            let status : t.status ≡ WaitingForEvent e = sym i ∙ waits.0 in
            let high : nat_eq (bit_at seen e) 1 ≡ true = sym (ap (is_signalled seen) status) ∙ parts.1 in
            let below : e < 32 = omega (arith, few, waits.1) in
            true≢false (sym (ap (λ (fs : List Bool). get_or fs e false) flags ∙ get_or_flags_of seen e below ∙ high) ∙ (waits_at marks s e answers).1.1)),
        quiet,
      )
    ]

by_steps : (events seen : ℕ) (t at : Thread) (s v : Machine) (marks : MarkList) (most taken : ℕ) (last : Option ChanTurn) (signal : Option ℕ) → events ≤ 32
    → can_step seen t ≡ true → s.channel ≡ t.channel → s.flags ≡ flags_of seen → at.channel ≡ v.channel → signal ≡ signal_after marks s taken
    → TakesSteps marks s most taken last v → Differs t (answer events at last signal) signal
by_steps events seen t at s v marks most zero last signal few can same flags is sets x = grind (arith, fine_status, and_parts)
by_steps events seen t at s v marks most (suc zero) last signal few can same flags is sets x = grind (arith, by_turn)
by_steps events seen t at s v marks most (suc (suc j)) last signal few can same flags is sets x =
    let up = all_rise marks s (suc j) (was_moved (ahead_of s.channel) (answer_at marks s) (went_before marks s 1 (steps_move x 1 (omega arith)))) in
    let new = ap (λ (c : ChannelValue). c.taken) (answer_channel events at last signal ∙ is ∙ ap (λ (m : Machine). m.channel) x.ends_at) in
    inl (omega (arith, up, ap (λ (c : ChannelValue). c.taken) same, new))

pub call_found : (marks : MarkList) (n most : ℕ) (s : Setup) (made : Bool) (x : StepsThread made n s)
    → slice_get (called_if made marks n most s).left.device.threads n ≡ Some (thread_left marks most x.thread s)
call_found marks n most s made x = grind (arith, call_acts, set_found)

call_differs : (marks : MarkList) (most : ℕ) (t : Thread) (s : Setup) → s.device.config.events ≤ 32 → can_step (visible_events s.device) t ≡ true
    → Differs t (thread_left marks most t s) (signal_in marks most t s)
call_differs marks most t s few can =
    let to = machine_left marks most t s in
    by_steps s.device.config.events (visible_events s.device) t (record t { channel = to.channel; pc = (t.base + to.channel.registers.pc) % 2 ^ 32 })
    (machine_in s t) to marks most (steps_in marks most t s) (last_in marks most t s) (signal_in marks most t s) few can refl refl refl refl
    (takes marks most t s)

pub call_keeps_count : (marks : MarkList) (most : ℕ) (t : Thread) (s : Setup) → t.channel.taken ≤ (thread_left marks most t s).channel.taken
call_keeps_count marks most t s = grind (arith, answer_channel, never_falls)

-- ---- a turn

same_in : (d e : DeviceValue) (n : ℕ) (t u : Thread) → e ≡ d → slice_get d.threads n ≡ Some t → slice_get e.threads n ≡ Some u → u ≡ t
same_in d e n t u same found there = cc (ap (λ (v : DeviceValue). slice_get v.threads n) same)

-- thread n has counted more instructions than this one
abbrev Counted : ℕ → Thread → DeviceValue → Type 0
Counted n t d = (w : Thread) × (slice_get d.threads n ≡ Some w) × (t.channel.taken < w.channel.taken)

pub turn_changes : TurnChanges
turn_changes d e regions left n most turn t x h found can some same =
    let marks = marks_in regions in
    let s = setup_of d regions in
    let first = first_in d regions n most in
    let m = first.left.device in
    let on = (and_parts (runs t) (is_signalled (visible_events d) t.status) can).0 in
    let starts : begins d n most ≡ true = ap (λ (b : Bool). b && runs_at d n) (lt-ltb 0 most some) ∙ runs_found d n t found ∙ on in
    let one : StepsThread (begins d n most) n s = record { on = starts; thread = t; found = found } in
    let u = thread_left marks most t s in
    let there : slice_get m.threads n ≡ Some u = call_found marks n most s (begins d n most) one in
    elim (call_differs marks most t s h.few can) [
      | inl up ↦
          let more = subst (Counted n t) (turn_device x)
          (call_keeps (Counted n t) (follows m n first.called) marks n 1 first.left (u, there, up) (λ two.
          let w = two.thread in
          let z = thread_left marks 1 w first.left in
          let mid : w ≡ u = cc (two.found, there) in
          let grown = call_keeps_count marks 1 w first.left in
          (z, set_found m.threads n w z two.found, omega (arith, up, grown, ap (λ (k : Thread). k.channel.taken) mid)))) in
          let back = same_in d e n t more.0 same found more.1 in
          absurd (omega (arith, more.2, ap (λ (k : Thread). k.channel.taken) back))
      | inr other ↦
          let none : first.called.signal ≡ None = ap (λ (o : Outcome). o.called.signal) (call_acts marks most one) ∙ other.1 in
          let off : follows m n first.called ≡ false = grind (arith) in
          let rests = ap (λ (b : Bool). slice_get (called_if b marks n 1 first.left).left.device.threads n) off in
          other.0 (ap (λ (w : Thread). w.status)
          (same_in d e n t u same found (ap (λ (v : DeviceValue). slice_get v.threads n) (sym (turn_device x)) ∙ rests ∙ there)))
    ]
