-- Programs that are explained for any registers, on a device.
use Rattle.std.proofs.Common.{◌≡◌, length, ap, inl, inr}
use Rattle.std.proofs.{lemmas.Bool.cases_lt, lemmas.List.get_or_past}
use Rattle.dma_chan.specs.declared.bus.Bus.TheVariants.{Chip}
use Rattle.dma_explain.proofs.AnyRegisters.{any_explained, any_refused}
use Rattle.dma_device.specs.{AnyRegisters.AnyDmago, AnyRegisters.AnyDmagoRefused, Dmago.Go, Dmago.start_of, Snapshot.IsDeviceValue, Thread.reset_thread, declared.thread.Thread.Thread}

-- the channel that a DMAGO starts is on the device's bus
on_bus : (go : Go) → IsDeviceValue go.device → (start_of go).bus ≡ Chip go.device.config.bus
on_bus go d = elim (cases_lt go.channel (length go.device.threads)) [
  | inl there ↦ (d.on go.channel (reset_thread go.device.config.bus) there).width
  | inr past ↦
      ap (λ (t : Thread). t.channel.registers.bus) (get_or_past go.device.threads go.channel (reset_thread go.device.config.bus) past)
]

pub any_dmago : AnyDmago
any_dmago go most x d finds =
    any_explained (Chip go.device.config.bus) go.program most x finds (start_of go) (on_bus go d)

pub any_dmago_refused : AnyDmagoRefused
any_dmago_refused go most u kind d refuses fault =
    any_refused (Chip go.device.config.bus) go.program most u kind refuses fault (start_of go) (on_bus go d)
