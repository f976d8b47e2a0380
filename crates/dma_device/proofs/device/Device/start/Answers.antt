use Rattle.std.proofs.Common.{subst, sym}
use Rattle.dma_device.specs.Thread.{IsOn, IsSound}
use Rattle.dma_device.proofs.Sound.{started_sound, with_new}
use Rattle.dma_device.proofs.device.Device.start.Goals as goal

pub invariant_of-self : goal.invariant_of-self
invariant_of-self c =
    let d = c.self.inside in
    with_new d c.args.n c.index_mut.result.now c.start.new.self c.self.invariant c.index_mut.ensures.value
    (λ on. subst (IsOn d.config.bus) (sym c.start.ensures) (record { width = on.width; control = on.control }))
    (λ _. subst (IsSound d.config.events) (sym c.start.ensures) (started_sound d.config.events c.args.nonsecure d.dbginst1 _ c.index_mut.result.now))
