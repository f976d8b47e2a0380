-- `as_kept` is a cast.
use Rattle.std.proofs.Common.{◌≡◌, refl}
use Rattle.dma_ffi.specs.inner.Lending.{as_controller, of_controller}
use Rattle.dma_ffi.proofs.{Casts.casts, controller.Controller.as_kept.Statement.statement}
use denote.Memory.{part_of}
use Rattle.dma_engine.specs.contracts.engine.Engine.{the_row as R}
use Rattle.dma_ffi.specs.contracts.kept.Kept.{the_row as kept_row}
use Rattle.dma_ffi.specs.contracts.controller.Controller.{the_row as P}
use Rattle.dma_ffi.specs.contracts.controller.Controller.as_kept as f
use Rattle.dma_ffi.proofs.controller.Controller.as_kept.Code as code

pub as_kept_spec : {M : Type 1} → statement M
unfolding part_of
as_kept_spec 𝓤 𝓛 𝓜 𝓡 wired =
    casts P (kept_row R) as_controller of_controller (λ w h. w ≡ of_controller h) (λ h. refl)
    (λ h b o. refl) (λ w b o. refl) 𝓛 𝓜 𝓡 f.Key.name (code.unfolded 𝓤 𝓛.H 𝓜 𝓡 wired)
