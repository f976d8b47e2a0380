use Rattle.std.proofs.Common.{◌≡◌, ◌∙◌, ◌^◌, ◌<◌, Option, Some, ap, refl, true, rules, subst, sym, arith}
use Rattle.std.proofs.lemmas.Grind.{common_steps}
use Rattle.std.specs.Prelude.{slice_get}
use Rattle.dma_mem.specs.{Flags.flags_of, Regions.image_of, Regions.pieces_of}
use Rattle.dma_mem.proofs.Steps.{taken_few}
use Rattle.dma_chan.specs.{declared.bus.Bus.TheVariants.Chip, Bus.fits, Channel.ChannelValue, Stepping.Machine, Stepping.machine}
use Rattle.dma_chan.proofs.BusKept.{steps_bus}
use Rattle.dma_device.specs.{Device.DeviceValue, Device.with_thread, Thread.IsOn, Thread.IsSound, Thread.answered, Thread.runs, inner.Fields.device_value}
use Rattle.dma_device.specs.Turns.{called, outcome_of, runs_at, setup_of, visible_events, with_flags}
use Rattle.dma_device.specs.{CallSteps.marks_in, declared.device.turns.Called.Called, declared.thread.Thread.Thread}
use Rattle.dma_device.proofs.{Answered.answer_channel, Calls.runs_found, Calls.stepped_is, Found.found_running, Sound.steps_fit, Sound.answered_sound, Sound.runs_clear}
use Rattle.dma_device.proofs.Sound.{with_new}
use Rattle.dma_device.proofs.device.Device.call.Goals as goal

pub invariant_of-self : goal.invariant_of-self
invariant_of-self c =
    let d = c.self.inside in
    let t = c.index_mut-thread.result.now in
    let new = c.answer.new.self in
    let channel = c.step_regions-taken.new.channel in
    let steps = c.step_regions-taken.ensures.steps in
    let same : new.channel ≡ channel = grind (arith, answer_channel) in
    let after = same ∙ ap (λ (m : Machine). m.channel) steps.ends_at in
    let kept : IsOn d.config.bus t → IsOn d.config.bus new = λ on. record {
      width = ap (λ (x : ChannelValue). x.registers.bus) after ∙ steps_bus _ _ c.step_regions-taken.result.count ∙ on.width;
      control = ap (λ (x : ChannelValue). fits (Chip d.config.bus) x.registers.ccr) after
          ∙ steps_fit (Chip d.config.bus) _ _ c.step_regions-taken.result.count on.width on.control;
    } in
    let v = device_value d in
    let found : slice_get v.threads c.args.n ≡ Some t = found_running c.args.self.now v c.args.n t c.self.view_is c.requires.runs c.index_mut-thread.ensures.value in
    let on : runs t ≡ true = sym (runs_found v c.args.n t found) ∙ ap (λ (v : DeviceValue). runs_at v c.args.n) c.self.view_is ∙ c.requires.runs in
    with_new d c.args.n t new c.self.invariant c.index_mut-thread.ensures.value kept
    (λ sound. subst (IsSound d.config.events) (sym c.answer.ensures)
    (answered_sound _ _ _ _ c.step_regions-taken.result.count d.config.events c.step_regions-taken.result.last
    (record t { channel = channel }) c.step_regions-taken.result.signal steps refl (runs_clear d.config.events t sound on) sound.cost))

pub returns-clause-few : goal.returns-clause-few
returns-clause-few c = grind (arith, common_steps, taken_few)

pub returns-clause-calls : goal.returns-clause-calls
returns-clause-calls c =
    let d = c.args.self.now in
    let n = c.args.n in
    let t = c.index_mut-thread.result.now in
    let old = c.args.regions.now in
    let new = c.step_regions-taken.new in
    let did = c.step_regions-taken.result in
    let x = c.step_regions-taken.ensures in
    let made : Called = record { written = did.written; signal = did.signal; taken = did.count } in
    let view : device_value c.self.inside ≡ d = c.self.view_is in
    let found : slice_get d.threads n ≡ Some t = ap (λ (v : DeviceValue). slice_get v.threads n) (sym view)
    ∙ found_running d (device_value c.self.inside) n t view c.requires.runs c.index_mut-thread.ensures.value in
    let seen : c.from_bits-events.result ≡ flags_of (visible_events d) = c.from_bits-events.ensures ∙ ap flags_of c.visible_events.ensures in
    let few : c.bits.result < 2 ^ 32 = omega arith in
    let device : c.set_flags.new.self ≡ with_thread n (answered d.config.events (record t { channel = new.channel }) did.last did.signal)
    (with_flags c.bits.result d) = search rules in
    let none = c.self.invariant.marks in
    let steps = rw (none, seen) at x.steps in
    let signal = rw (none, seen) at x.signal in
    let written = rw (none, seen) at x.written in
    ap (λ (o : Option Thread). called (marks_in old) n c.args.most o (setup_of d old)) found
    ∙ stepped_is (marks_in old) c.args.most t (setup_of d old) n c.bits.result (machine new.channel (image_of (pieces_of new.regions)) new.events) did.last made
    few (sym c.bits.ensures) steps signal written
    ∙ ap (λ (e : DeviceValue). outcome_of e new.regions made) (sym device)
