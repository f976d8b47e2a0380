use Rattle.std.proofs.Common.{◌≡◌, ◌∙◌, List, ap, get_or, refl, subst, sym}
use Rattle.dma_device.specs.{Device.DeviceValue, Device.with_thread, Thread.IsOn, Thread.IsSound, Thread.failed, declared.thread.Thread.Thread, inner.Fields.device_value}
use Rattle.std.proofs.lemmas.Bool.{ne_eqb}
use Rattle.dma_device.proofs.{Found.found_at, Found.none_at, Sound.failed_sound, Sound.killed_sound, Sound.with_new}
use Rattle.dma_device.proofs.device.Device.debug_thread.Goals as goal

pub invariant_of-self : goal.invariant_of-self
invariant_of-self c =
    let d = c.self.inside in
    with_new d c.args.n c.index_mut.result.now c.kill.new.self c.self.invariant c.index_mut.ensures.value
    (λ on. subst (IsOn d.config.bus) (sym c.kill.ensures) (record { width = on.width; control = on.control }))
    (λ sound. subst (IsSound d.config.events) (sym c.kill.ensures) (killed_sound d.config.events _ sound))

pub invariant_of-self-then-opcode-ne-DMASEV : goal.invariant_of-self-then-opcode-ne-DMASEV
invariant_of-self-then-opcode-ne-DMASEV c =
    let d = c.self.inside in
    with_new d c.args.n c.index_mut-then-opcode-ne-DMASEV.result.now c.fail.new.self c.self.invariant c.index_mut-then-opcode-ne-DMASEV.ensures.value
    (λ on. subst (IsOn d.config.bus) (sym c.fail.ensures) (record { width = on.width; control = on.control }))
    (λ sound. subst (IsSound d.config.events) (sym c.fail.ensures) (failed_sound d.config.events _ _ refl sound))

pub invariant_of-self-else-is_event : goal.invariant_of-self-else-is_event
invariant_of-self-else-is_event c =
    let d = c.self.inside in
    with_new d c.args.n c.index_mut-else-is_event.result.now c.fail-else-is_event.new.self c.self.invariant c.index_mut-else-is_event.ensures.value
    (λ on. subst (IsOn d.config.bus) (sym c.fail-else-is_event.ensures) (record { width = on.width; control = on.control }))
    (λ sound. subst (IsSound d.config.events) (sym c.fail-else-is_event.ensures) (failed_sound d.config.events _ _ refl sound))

pub returns-in_default : goal.returns-in_default
returns-in_default c =
    let d = c.args.self.now in
    let same = c.deref.ensures.value ∙ ap (λ (e : DeviceValue). e.threads) c.self.view_is in
    rw (none_at d.threads c.deref.result.now c.args.n same c.in_default.ensures.lookup.0) refl

pub returns-then-is_faulting : goal.returns-then-is_faulting
returns-then-is_faulting c =
    let d = c.args.self.now in
    let same = c.deref.ensures.value ∙ ap (λ (e : DeviceValue). e.threads) c.self.view_is in
    let lookup = c.in-Some.ensures.lookup in
    let found = (found_at d.threads c.deref.result.now c.args.n c.in-Some.thread.now same lookup.0 lookup.1).1 in
    rw (found, ne_eqb c.args.opcode 1 c.if-opcode-eq-DMAKILL.false, sym c.if-is_faulting.ensures) refl

pub returns-then-is_event : goal.returns-then-is_event
returns-then-is_event c =
    let d = c.args.self.now in
    let same = c.deref.ensures.value ∙ ap (λ (e : DeviceValue). e.threads) c.self.view_is in
    let lookup = c.in-Some.ensures.lookup in
    let found = (found_at d.threads c.deref.result.now c.args.n c.in-Some.thread.now same lookup.0 lookup.1).1 in
    rw (found, ne_eqb c.args.opcode 1 c.if-opcode-eq-DMAKILL.false, sym c.if-is_faulting.ensures, c.if-opcode-ne-DMASEV.false, sym c.if-is_event.ensures)
    c.signal.ensures

pub returns-then-opcode-ne-DMASEV : goal.returns-then-opcode-ne-DMASEV
returns-then-opcode-ne-DMASEV c =
    let d = c.args.self.now in
    let same = c.deref.ensures.value ∙ ap (λ (e : DeviceValue). e.threads) c.self.view_is in
    let lookup = c.in-Some.ensures.lookup in
    let found = (found_at d.threads c.deref.result.now c.args.n c.in-Some.thread.now same lookup.0 lookup.1).1 in
    rw (found, ne_eqb c.args.opcode 1 c.if-opcode-eq-DMAKILL.false, sym c.if-is_faulting.ensures, ne_eqb c.args.opcode 52 c.if-opcode-ne-DMASEV.true) (
    let r = c.index_mut-then-opcode-ne-DMASEV.result.now in
    let is : r ≡ c.in-Some.thread.now =
    c.index_mut-then-opcode-ne-DMASEV.ensures.value ∙ ap (λ (ts : List Thread). get_or ts c.args.n r) (sym c.deref.ensures.value) ∙ sym (lookup.3.1 r) in
    ap (λ (t : Thread). with_thread c.args.n t (device_value c.self.inside)) (c.fail.ensures ∙ ap (λ (t : Thread). failed 1073741825 t) is)
    ∙ ap (λ (e : DeviceValue). with_thread c.args.n (failed 1073741825 c.in-Some.thread.now) e) c.self.view_is)
