-- Programs that are explained for any registers, on a device: a DMAGO keeps SAR, DAR, CCR and the loop counters, so a
-- program begins with what another one has left there.
use Rattle.std.specs.Prelude.{◌≡◌, ℕ, ◌-◌, Some}
use Rattle.dma_chan.specs.{declared.bus.Bus.TheVariants.Chip, declared.turn.FaultKind.FaultKind}
use Rattle.dma_explain.specs.{Explains.Explains, Explains.Refuses, Explains.work_of, Known.FindsFrom, Known.RefusesFrom, Known.none_given}
use Rattle.dma_explain.specs.{Refusals.fault_of_cause, declared.explain.Explained.Explained, declared.explain.Unexplained.Unexplained}
use Rattle.dma_device.specs.{Dmago.Go, Dmago.start_of, Snapshot.IsDeviceValue}

-- What is found of a program when no register is known, on the device's bus, explains it from the registers of the
-- channel that a DMAGO starts, whatever they are. This is what the laws of a DMAGO ask for.
abbrev pub AnyDmago : Type 0
AnyDmago =
    (go : Go) (most : ℕ) (x : Explained) → IsDeviceValue go.device →
    FindsFrom (none_given (Chip go.device.config.bus)) go.program most x →
    Explains (start_of go) go.program (work_of x) (x.steps - 1)

-- A program that is then refused for a fault is refused for it from the channel's registers.
abbrev pub AnyDmagoRefused : Type 0
AnyDmagoRefused =
    (go : Go) (most : ℕ) (u : Unexplained) (kind : FaultKind) → IsDeviceValue go.device →
    RefusesFrom (none_given (Chip go.device.config.bus)) go.program most u →
    fault_of_cause u.cause ≡ Some kind → Refuses (start_of go) go.program most u
