-- Devices stay sound, and a turn of a sound device whose threads can't step does nothing.
use Rattle.std.proofs.Common.{◌≡◌, ◌∙◌, ℕ, ◌+◌, ◌%◌, ◌/◌, ◌<◌, ◌≤◌, Bool, true, false, List, ap, refl, sym, subst, arith, bit_and, w32}
use Rattle.std.specs.{Prelude.◌==◌, Prelude.nat_lt, Int.bit_not}
use Rattle.std.proofs.{Math.Pow.pow-lt, lemmas.Bool.and_parts, lemmas.Nat.or_lt, lemmas.Nat.pow_pos}
use Rattle.dma_insn.specs.ControlWord.{field}
use Rattle.dma_mem.specs.{Marking.MarkList, Regions.Piece, Regions.pieces_of, declared.regions.Region.Region}
use Rattle.dma_device.specs.Accesses.{Access, Answer, Does, Resets, Restores, Turned, Turns, Writes}
use Rattle.dma_device.specs.Device.{DeviceValue, all_events, cleared_by, debugged, is_event, program_at, reset_device, signalled, written}
use Rattle.dma_device.specs.Turns.{Setup, called_if, machine_in, number_of, steps_in, with_flags}
use Rattle.dma_device.specs.{declared.config.Config.Config, CallSteps.last_in, CallSteps.signal_in, Idle.IsSoundDevice, Idle.NothingHappens, Idle.StaySound}
use Rattle.dma_device.specs.{Snapshot.IsDeviceValue, Thread.dbg_instr, Thread.failed, Thread.killed, Thread.started, Turns.runs_at}
use Rattle.dma_device.proofs.Calls.{call_keeps, machine_left, runs_found, takes, thread_left, turn_keeps_running}
use Rattle.dma_device.proofs.Sound.{all_reset, and_fewer, and_known, answered_sound, failed_sound, few_events, killed_sound, runs_clear, same_threads, sound_at}
use Rattle.dma_device.proofs.Sound.{started_sound, thread_sound}
use Rattle.dma_device.proofs.{Cases.branch, Cases.debug_cases, Cases.write_cases, History.kept_along, Waits.turn_rests}
use borrow.Author.Tests.{ltb-true}

-- ---- parts

-- a fault of a debug instruction isn't 0
debug_fault : (why : ℕ) → (why + dbg_instr == 0) ≡ false
debug_fault why = grind arith

signalled_sound : (d : DeviceValue) (k : ℕ) → IsSoundDevice d → k < d.config.events → IsSoundDevice (signalled k d)
signalled_sound d k h less = grind (arith, branch, or_lt, pow-lt, same_threads)

event_known : (d : DeviceValue) (byte : ℕ) → is_event d byte ≡ true → byte / 8 < d.config.events
event_known d byte is = ltb-true (byte / 8) d.config.events (and_parts (byte % 8 == 0) (nat_lt (byte / 8) d.config.events) is).1

-- ---- a write

debugged_sound : (ram : List Piece) (d : DeviceValue) → IsSoundDevice d → IsSoundDevice (debugged ram d)
debugged_sound ram d h = debug_cases IsSoundDevice ram d (record {
  same = h;
  manager = λ _ m kept. same_threads d (record d { manager = m }) h refl refl h.known.events h.known.interrupts h.known.inten (kept h.known.manager);
  sev = λ byte event. signalled_sound d (byte / 8) h (event_known d byte event);
  kills = λ t _ found. thread_sound d (field 8 3 d.dbginst0) (killed t) h (killed_sound d.config.events t (sound_at d _ t h found));
  fails = λ why t _ found.
      thread_sound d (field 8 3 d.dbginst0) (failed (why + dbg_instr) t) h
      (failed_sound d.config.events (why + dbg_instr) t (debug_fault why) (sound_at d _ t h found));
  starts = λ n t nonsecure _ _ _. thread_sound d n (started nonsecure d.dbginst1 (program_at ram d.dbginst1) t) h (started_sound d.config.events nonsecure d.dbginst1 _ t);
})

written_sound : (ram : List Piece) (at value : ℕ) (d : DeviceValue) → IsSoundDevice d → IsSoundDevice (written ram at value d)
written_sound ram at value d h =
    let n = d.config.events in
    let enabled : DeviceValue = record d { inten = bit_and value (all_events d) } in
    let kept = bit_not w32 (bit_and value d.inten) in
    write_cases IsSoundDevice ram at value d (record {
      inten = same_threads d enabled h refl refl h.known.events h.known.interrupts (and_known value n) h.known.manager;
      intclr = λ is. same_threads d (cleared_by value d) h refl refl (and_fewer d.events kept n h.known.events)
          (and_fewer d.interrupts kept n h.known.interrupts) h.known.inten h.known.manager;
      dbgcmd = λ _ _. debugged_sound ram d h;
      dbginst0 = same_threads d (record d { dbginst0 = value }) h refl refl h.known.events h.known.interrupts h.known.inten h.known.manager;
      dbginst1 = same_threads d (record d { dbginst1 = value }) h refl refl h.known.events h.known.interrupts h.known.inten h.known.manager;
      other = h;
    })

-- ---- a turn

flags_sound : (d : DeviceValue) (flags : ℕ) → IsSoundDevice d → IsSoundDevice (with_flags flags d)
flags_sound d flags h = grind (arith, and_fewer, and_known, or_lt, same_threads)

call_sound : (made : Bool) (marks : MarkList) (n most : ℕ) (s : Setup) → (made ≡ true → runs_at s.device n ≡ true) → IsSoundDevice s.device
    → IsSoundDevice (called_if made marks n most s).left.device
call_sound made marks n most s on h = call_keeps IsSoundDevice made marks n most s h (λ x.
    let d = s.device in
    let t = x.thread in
    let sound = sound_at d n t h x.found in
    let clear = runs_clear d.config.events t sound (sym (runs_found d n t x.found) ∙ on x.on) in
    let to = machine_left marks most t s in
    let flags = number_of to.flags in
    thread_sound (with_flags flags d) n (thread_left marks most t s) (flags_sound d flags h)
    (answered_sound marks (machine_in s t) to most (steps_in marks most t s) d.config.events (last_in marks most t s) (record t { channel = to.channel })
    (signal_in marks most t s) (takes marks most t s) refl clear sound.cost))

-- ---- accesses

value_sound : (d : DeviceValue) → IsDeviceValue d → IsSoundDevice d
value_sound d v = grind (arith, few_events)

reset_sound : (g : Config) → g.events ≤ 32 → IsSoundDevice (reset_device g)
reset_sound g few = record {
  few = few;
  known = record { events = pow_pos g.events; interrupts = pow_pos g.events; inten = pow_pos g.events; manager = refl };
  threads = all_reset g.bus g.events g.channels;
}

access_sound : (a : Access) (d e : DeviceValue) (regions left : List Region) (answer : Answer) → Does a d regions answer e left → IsSoundDevice d
    → IsSoundDevice e
access_sound (Writes at value) d e regions left answer x h = subst IsSoundDevice (sym x.1) (written_sound (pieces_of regions) at value d h)
access_sound (Turns n most) d e regions left answer x h = turn_keeps_running x.1.1 IsSoundDevice (λ made marks m s. call_sound made marks n m s) h
access_sound Resets d e regions left answer x h = subst IsSoundDevice (sym x.1) (reset_sound d.config h.few)
access_sound (Restores saved) d e regions left answer x h = subst IsSoundDevice (sym x.1) (value_sound saved x.4)
access_sound a d e regions left answer x h = subst IsSoundDevice (sym x.1) h

pub stay_sound : StaySound
stay_sound = record {
  reset = λ g valid. reset_sound g (few_events g valid);
  restored = value_sound;
  kept = access_sound;
}

pub nothing_happens : NothingHappens
nothing_happens access answer before lent left count k n most happen sound less turns idle =
    let here = kept_along (λ j. IsSoundDevice (before j)) count sound
    (λ j l h. access_sound (access j) (before j) (before (j + 1)) (lent j) (left j) (answer j) (happen j l) h) k (omega arith) in
    let x = subst (λ (a : Access). Does a (before k) (lent k) (answer k) (before (k + 1)) (left k)) turns (happen k less) in
    let rests = turn_rests (before k) (lent k) n most (before (k + 1)) (left k) x.0 here idle x.1.1 in
    (rests.device, rests.alike, x.1.0 ∙ ap Turned rests.report)
