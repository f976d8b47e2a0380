-- What a thread shows after a turn: the registers and counts of its channel, or those from before an instruction that
-- failed.
use Rattle.std.proofs.Common.{◌≡◌, ◌≢◌, ◌∙◌, ℕ, zero, suc, ◌+◌, ◌-◌, ◌%◌, ◌^◌, ◌≤◌, Bool, true, false, Option, Some, None, ap, refl, sym, subst, arith}
use Rattle.std.proofs.Common.{inl, inr, true≢false, Ok}
use Rattle.std.specs.{Prelude.slice_get, Option.option_map_or}
use Rattle.std.proofs.lemmas.Bool.{eq-eqb, le-ltb, ne_eqb}
use Rattle.dma_insn.specs.declared.chip.ChipInsn.TheVariants.{Sev}
use Rattle.dma_mem.specs.Marking.{MarkList}
use Rattle.dma_chan.specs.Channel.{ChannelValue, ahead_of, stored_by}
use Rattle.dma_chan.specs.Stepping.{Machine, TakesSteps, after_step, after_steps, answer_at, signal_after}
use Rattle.dma_chan.specs.declared.turn.ChanTurn.TheVariants.{Ended, Fault, Moved, Waiting}
use Rattle.dma_chan.specs.{Exec.ChangesNothing, Exec.State, declared.exec.Registers.Registers, declared.turn.ChanTurn.ChanTurn}
use Rattle.dma_chan.proofs.{CallWrites.does_next, CallWrites.turned, SteppedOver.is_still}
use Rattle.dma_explain.proofs.CallsAmongOthers.{is_signal}
use Rattle.dma_device.specs.CallSteps.{StepsThread, first_in, last_in, marks_in, signal_in}
use Rattle.dma_device.specs.Thread.{answer, answered, is_at_next, is_faulting, runs, shown}
use Rattle.dma_device.specs.Turns.{Outcome, Setup, begins, follows, machine_in, setup_of, steps_in}
use Rattle.dma_device.specs.Underway.{FailsAt, HasCountsOf, TurnShows}
use Rattle.dma_device.specs.{Device.DeviceValue, Faults.LastFails, declared.thread.Thread.Thread}
use Rattle.dma_device.proofs.Calls.{begins_runs, call_is, machine_left, takes, thread_left, turn_device}
use Rattle.dma_device.proofs.{Answered.answer_channel, Faults.answer_faults, TurnChanges.call_found, Underway.shown_if}

-- ---- CPC

-- at the next instruction a thread shows its channel
here_shows : (t : Thread) → t.pc ≡ (t.base + t.channel.registers.pc) % 2 ^ 32 → shown t ≡ t.channel
here_shows t here = ap (λ (b : Bool). shown_if b t) (eq-eqb t.pc ((t.base + t.channel.registers.pc) % 2 ^ 32) here)

-- two bytes before it
not_here : (a : ℕ) → (a % 2 ^ 32 + (2 ^ 32 - 2)) % 2 ^ 32 ≢ a % 2 ^ 32
not_here a same = omega (arith, same)

-- a channel that has executed a DMASEV
record IsPast (c before : ChannelValue) : Type 0 where
  registers : c.registers ≡ record (before.registers) { pc = before.registers.pc + 2 }
  taken : c.taken ≡ before.taken + 1
  stored : c.stored ≡ before.stored

past_shows : (t : Thread) (before : ChannelValue) → is_at_next t ≡ false → IsPast t.channel before → HasCountsOf (shown t) before
past_shows t before off past =
    let back : before.registers.pc + 2 - 2 ≡ before.registers.pc = omega arith in
    subst (λ (c : ChannelValue). HasCountsOf c before) (sym (ap (λ (b : Bool). shown_if b t) off))
    (record {
      registers = ap (λ (r : Registers). record r { pc = r.pc - 2 }) past.registers ∙ ap (λ (n : ℕ). record (before.registers) { pc = n }) back;
      taken = omega (arith, past.taken);
      stored = past.stored;
    })

-- ---- a thread after its answer

-- it isn't faulting
fine_pc : (events : ℕ) (th : Thread) (last : Option ChanTurn) (signal : Option ℕ) → is_faulting (answer events th last signal) ≡ false
    → (answer events th last signal).pc ≡ th.pc
fine_pc events th last signal fine = grind arith

same_base : (events : ℕ) (th : Thread) (last : Option ChanTurn) (signal : Option ℕ) → (answer events th last signal).base ≡ th.base
same_base events th last signal = grind arith

shows_at : (events : ℕ) (t : Thread) (last : Option ChanTurn) (signal : Option ℕ) → (answered events t last signal).pc
    ≡ (t.base + t.channel.registers.pc) % 2 ^ 32 → shown (answered events t last signal) ≡ t.channel
shows_at events t last signal here =
    let at : Thread = record t { pc = (t.base + t.channel.registers.pc) % 2 ^ 32 } in
    let base = same_base events at last signal in
    let channel = answer_channel events at last signal in
    here_shows (answered events t last signal)
    (here ∙ sym (ap (λ (b : ℕ). (b + t.channel.registers.pc) % 2 ^ 32) base)
    ∙ sym (ap (λ (c : ChannelValue). ((answered events t last signal).base + c.registers.pc) % 2 ^ 32) channel))
    ∙ channel

fine_shows : (events : ℕ) (t : Thread) (last : Option ChanTurn) (signal : Option ℕ) → is_faulting (answered events t last signal) ≡ false
    → shown (answered events t last signal) ≡ (answered events t last signal).channel
fine_shows events t last signal fine =
    let at : Thread = record t { pc = (t.base + t.channel.registers.pc) % 2 ^ 32 } in
    shows_at events t last signal (fine_pc events at last signal fine) ∙ sym (answer_channel events at last signal)

-- it failed, and its last step wasn't a DMASEV
failed_pc : (events : ℕ) (th : Thread) (last : Option ChanTurn) (signal : Option ℕ) → LastFails events last signal → last ≢ Some Moved
    → (answer events th last signal).pc ≡ th.pc
failed_pc events th last signal fails other = grind arith

-- it failed at a DMASEV
sev_pc : (events e : ℕ) (th : Thread) → events ≤ e → (answer events th (Some Moved) (Some e)).pc ≡ (th.pc + (2 ^ 32 - 2)) % 2 ^ 32
sev_pc events e th above = grind (arith, le-ltb)

sev_off : (events e : ℕ) (t : Thread) → events ≤ e → is_at_next (answered events t (Some Moved) (Some e)) ≡ false
sev_off events e t above =
    let at : Thread = record t { pc = (t.base + t.channel.registers.pc) % 2 ^ 32 } in
    let u = answered events t (Some Moved) (Some e) in
    let base : u.base ≡ t.base = same_base events at (Some Moved) (Some e) in
    let channel : u.channel ≡ t.channel = answer_channel events at (Some Moved) (Some e) in
    let next : (u.base + u.channel.registers.pc) % 2 ^ 32 ≡ (t.base + t.channel.registers.pc) % 2 ^ 32 =
    ap (λ (b : ℕ). (b + u.channel.registers.pc) % 2 ^ 32) base ∙ ap (λ (c : ChannelValue). (t.base + c.registers.pc) % 2 ^ 32) channel in
    ne_eqb u.pc ((u.base + u.channel.registers.pc) % 2 ^ 32)
    (λ same. not_here (t.base + t.channel.registers.pc) (sym (sev_pc events e at above) ∙ same ∙ next))

-- ---- a call that fails

-- the channel after a DMASEV
sev_past : (marks : MarkList) (u : Machine) (e : ℕ) → ahead_of u.channel ≡ Ok (Sev e) → IsPast (after_step marks u).channel u.channel
sev_past marks u e sev =
    let does = does_next marks (Sev e) u sev in
    let moves : answer_at marks u ≡ Moved = ap (λ (y : ChanTurn × State). y.0) does in
    let is = turned marks u Moved moves in
    let none : stored_by (ahead_of u.channel) u.channel.registers ≡ 0 = ap (λ r. stored_by r u.channel.registers) sev in
    record {
      registers = ap (λ (c : ChannelValue). c.registers) is ∙ ap (λ (y : ChanTurn × State). y.1.registers) does;
      taken = ap (λ (c : ChannelValue). c.taken) is;
      stored = omega (arith, ap (λ (c : ChannelValue). c.stored) is, none);
    }

-- after its last step, by the answer
module _ (marks : MarkList) (u : Machine) (events : ℕ) (t : Thread) (is : t.channel ≡ (after_step marks u).channel) where
  abbrev Before : Option ChanTurn → Option ℕ → Type 0
  Before last signal = HasCountsOf (shown (answered events t last signal)) u.channel

  still : (turn : ChanTurn) (signal : Option ℕ) → answer_at marks u ≡ turn → ChangesNothing turn → LastFails events (Some turn) signal → turn ≢ Moved
      → Before (Some turn) signal
  still turn signal answers nothing fails other =
      let at : Thread = record t { pc = (t.base + t.channel.registers.pc) % 2 ^ 32 } in
      let same : (after_step marks u).channel ≡ u.channel =
      ap (λ (m : Machine). m.channel) (is_still marks u (subst ChangesNothing (sym answers) nothing)) in
      let shows = shows_at events t (Some turn) signal (failed_pc events at (Some turn) signal fails (λ moved. other (cc))) ∙ is ∙ same in
      subst (λ (c : ChannelValue). HasCountsOf c u.channel) (sym shows) (record { registers = refl; taken = refl; stored = refl })

  by_signal : (signal : Option ℕ) → (e : ℕ) → signal ≡ Some e → ahead_of u.channel ≡ Ok (Sev e) → events ≤ e → Before (Some Moved) signal
  by_signal signal e signals sev above =
      let at : Thread = record t { pc = (t.base + t.channel.registers.pc) % 2 ^ 32 } in
      let channel = answer_channel events at (Some Moved) (Some e) ∙ is in
      subst (Before (Some Moved)) (sym signals)
      (past_shows (answered events t (Some Moved) (Some e)) u.channel (sev_off events e t above)
      (subst (λ (c : ChannelValue). IsPast c u.channel) (sym channel) (sev_past marks u e sev)))

  by_answer : (turn : ChanTurn) (signal : Option ℕ) → answer_at marks u ≡ turn → ((e : ℕ) → signal ≡ Some e → ahead_of u.channel ≡ Ok (Sev e))
      → LastFails events (Some turn) signal → Before (Some turn) signal
  by_answer Moved None answers sev fails = absurd fails
  by_answer Moved (Some e) answers sev fails = by_signal (Some e) e refl (sev e refl) fails
  by_answer (Waiting e) signal answers sev fails = still (Waiting e) signal answers tt fails (λ same. cc)
  by_answer Ended signal answers sev fails = absurd fails
  by_answer (Fault kind) signal answers sev fails = still (Fault kind) signal answers tt fails (λ same. cc)

by_steps : (marks : MarkList) (s v : Machine) (most taken events : ℕ) (last : Option ChanTurn) (signal : Option ℕ) (t : Thread)
    → TakesSteps marks s most taken last v → signal ≡ signal_after marks s taken → t.channel ≡ v.channel → LastFails events last signal
    → HasCountsOf (shown (answered events t last signal)) (after_steps marks s (taken - 1)).channel
by_steps marks s v most zero events last signal t x signals is fails =
    let at : Thread = record t { pc = (t.base + t.channel.registers.pc) % 2 ^ 32 } in
    let same : t.channel ≡ s.channel = is ∙ ap (λ (m : Machine). m.channel) x.ends_at in
    let none : last ≢ Some Moved = λ moved. (let bad = sym x.answer ∙ moved in cc) in
    let shows = shows_at events t last signal (failed_pc events at last signal fails none) ∙ same in
    subst (λ (c : ChannelValue). HasCountsOf c s.channel) (sym shows) (record { registers = refl; taken = refl; stored = refl })
by_steps marks s v most (suc p) events last signal t x signals is fails =
    let u = after_steps marks s p in
    let back : p ≡ suc p - 1 = omega arith in
    let here = is ∙ ap (λ (m : Machine). m.channel) x.ends_at in
    let sev = λ (e : ℕ) (sends : signal ≡ Some e). is_signal (ahead_of u.channel) e (sym signals ∙ sends) in
    let fails_so = subst (λ (l : Option ChanTurn). LastFails events l signal) x.answer fails in
    let before = by_answer marks u events t here (answer_at marks u) signal refl sev fails_so in
    subst (λ (k : ℕ). HasCountsOf (shown (answered events t last signal)) (after_steps marks s k).channel) back
    (subst (λ (l : Option ChanTurn). HasCountsOf (shown (answered events t l signal)) u.channel) (sym x.answer) before)

-- what the thread of a call shows
module _ (marks : MarkList) (n most : ℕ) (s : Setup) (made : Bool) (x : StepsThread made n s) where
  abbrev left : Thread
  left = thread_left marks most x.thread s

  call_fine : is_faulting left ≡ false → shown left ≡ left.channel
  call_fine fine =
      fine_shows s.device.config.events (record (x.thread) { channel = (machine_left marks most x.thread s).channel }) (last_in marks most x.thread s)
      (signal_in marks most x.thread s) fine

  call_fails : is_faulting left ≡ true → FailsAt marks n left made most s
  call_fails faulting =
      let events = s.device.config.events in
      let t = x.thread in
      let to = machine_left marks most t s in
      let th : Thread = record t { channel = to.channel } in
      let fails = (answer_faults events (record th { pc = (t.base + to.channel.registers.pc) % 2 ^ 32 }) (last_in marks most t s) (signal_in marks most t s)).0
      faulting in
      record {
        executes = x;
        fails = fails;
        before = by_steps marks (machine_in s t) to most (steps_in marks most t s) events (last_in marks most t s) (signal_in marks most t s) th
            (takes marks most t s) refl refl fails;
      }

-- ---- a turn

running_thread : (o : Option Thread) → option_map_or runs o false ≡ true → (t : Thread) × (o ≡ Some t)
running_thread None on = absurd (true≢false (sym on))
running_thread (Some t) on = (t, refl)

pub turn_shows : TurnShows
turn_shows d e regions left n most turn th x starts found =
    let marks = marks_in regions in
    let s = setup_of d regions in
    let first = first_in d regions n most in
    let m = first.left.device in
    let goes = follows m n first.called in
    let w = running_thread (slice_get d.threads n) (begins_runs d n most starts) in
    let one : StepsThread (begins d n most) n s = record { on = starts; thread = w.0; found = w.1 } in
    let u = thread_left marks most w.0 s in
    let there : slice_get m.threads n ≡ Some u = call_found marks n most s (begins d n most) one in
    elim (call_is goes marks n 1 first.left) [
      | inl rests ↦
          let same_device : m ≡ e = sym (ap (λ (o : Outcome). o.left.device) rests.is) ∙ turn_device x in
          let same : u ≡ th = let here = subst (λ (v : DeviceValue). slice_get v.threads n ≡ Some u) same_device there in cc in (
            subst (λ (z : Thread). is_faulting z ≡ false → shown z ≡ z.channel) same (call_fine marks n most s (begins d n most) one),
            λ faulting. inl (subst (λ (z : Thread). FailsAt marks n z (begins d n most) most s) same
                (call_fails marks n most s (begins d n most) one (subst (λ (z : Thread). is_faulting z ≡ true) (sym same) faulting))),
          )
      | inr acts ↦
          let z = thread_left marks 1 acts.thread first.left in
          let last = call_found marks n 1 first.left goes acts in
          let same : z ≡ th = let here = subst (λ (v : DeviceValue). slice_get v.threads n ≡ Some z) (turn_device x) last in cc in (
            subst (λ (y : Thread). is_faulting y ≡ false → shown y ≡ y.channel) same (call_fine marks n 1 first.left goes acts),
            λ faulting. inr (subst (λ (y : Thread). FailsAt marks n y goes 1 first.left) same
                (call_fails marks n 1 first.left goes acts (subst (λ (y : Thread). is_faulting y ≡ true) (sym same) faulting))),
          )
    ]
