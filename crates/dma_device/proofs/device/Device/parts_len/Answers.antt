use Rattle.std.proofs.Common.{◌∙◌, ap, subst, sym}
use Rattle.std.specs.List.{All}
use Rattle.dma_device.specs.Snapshot.{IsDeviceValue, IsThreadValue, head_of}
use Rattle.dma_device.specs.{inner.Fields.device_value, inner.Saves.HasHeadRanges}
use Rattle.dma_device.proofs.{SavedDevices.device_value_is, Sound.on_of}
use Rattle.dma_device.proofs.device.Device.parts_len.Goals as goal

pub returns-clause-device : goal.returns-clause-device
returns-clause-device c =
    let d = device_value c.self.inside in
    let h = c.self.invariant in
    let ranges = subst HasHeadRanges (c.head.ensures ∙ ap head_of (sym c.self.view_is)) c.bytes-head.ensures.ranges in
    subst IsDeviceValue c.self.view_is
    (device_value_is d h.config h.sound.known ranges h.count
    (subst (All (IsThreadValue d.config.events)) c.deref.ensures.value c.threads_len.ensures.values) (on_of d.config.bus d.threads h.on))
