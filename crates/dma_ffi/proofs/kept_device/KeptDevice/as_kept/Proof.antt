-- `as_kept` is a cast.
use Rattle.std.proofs.Common.{◌≡◌, refl}
use Rattle.dma_ffi.specs.inner.Lending.{as_device, of_device}
use Rattle.dma_ffi.proofs.{Casts.casts, kept_device.KeptDevice.as_kept.Statement.statement}
use denote.Memory.{part_of}
use Rattle.dma_device.specs.contracts.device.Device.{the_row as R}
use Rattle.dma_ffi.specs.contracts.kept.Kept.{the_row as kept_row}
use Rattle.dma_ffi.specs.contracts.kept_device.KeptDevice.{the_row as P}
use Rattle.dma_ffi.specs.contracts.kept_device.KeptDevice.as_kept as f
use Rattle.dma_ffi.proofs.kept_device.KeptDevice.as_kept.Code as code

pub as_kept_spec : {M : Type 1} → statement M
unfolding part_of
as_kept_spec 𝓤 𝓛 𝓜 𝓡 wired =
    casts P (kept_row R) as_device of_device (λ w h. w ≡ of_device h) (λ h. refl)
    (λ h b o. refl) (λ w b o. refl) 𝓛 𝓜 𝓡 f.Key.name (code.unfolded 𝓤 𝓛.H 𝓜 𝓡 wired)
