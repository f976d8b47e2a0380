-- Programs that are explained for any registers: whatever a channel's registers are when it begins them.
use Rattle.std.specs.Prelude.{◌≡◌, ℕ, ◌-◌, ◌≤◌, List, Some}
use Rattle.dma_chan.specs.{declared.bus.Bus.Bus, declared.bus.Bus.TheVariants.Chip, declared.bus.BusWidth.BusWidth, Bus.bus_code}
use Rattle.dma_chan.specs.{declared.exec.Registers.Registers, declared.turn.FaultKind.FaultKind}
use Rattle.dma_explain.specs.{Explains.Explains, Explains.Refuses, Explains.Work, Explains.work_of, OnBuses.FitsBus, Refusals.fault_of_cause}
use Rattle.dma_explain.specs.Known.{FindsFrom, RefusesFrom, none_given}
use Rattle.dma_explain.specs.{declared.explain.Explained.Explained, declared.explain.Unexplained.Unexplained}

-- This work explains a program on a bus for any registers: from whichever it begins.
abbrev pub ExplainsAny : Bus → List ℕ → Work → ℕ → Type 0
ExplainsAny bus program w n = (start : Registers) → start.bus ≡ bus → Explains start program w n

-- What is found of a program when no register is known explains it for any registers.
abbrev pub AnyExplained : Type 0
AnyExplained =
    (bus : Bus) (program : List ℕ) (most : ℕ) (x : Explained) → FindsFrom (none_given bus) program most x →
    ExplainsAny bus program (work_of x) (x.steps - 1)

-- A work that explains a program for any registers on a chip's bus explains it for any registers on each chip's bus
-- that is no wider, if the program's beats fit that bus.
abbrev pub AnyNarrower : Type 0
AnyNarrower =
    (wide narrow : BusWidth) (program : List ℕ) (w : Work) (n : ℕ) → bus_code narrow ≤ bus_code wide →
    ExplainsAny (Chip wide) program w n →
    ((start : Registers) → start.bus ≡ Chip wide → FitsBus (Chip narrow) start program n) →
    ExplainsAny (Chip narrow) program w n

-- A program that is refused for a fault when no register is known is refused for it from whichever it begins.
abbrev pub AnyRefused : Type 0
AnyRefused =
    (bus : Bus) (program : List ℕ) (most : ℕ) (u : Unexplained) (kind : FaultKind) →
    RefusesFrom (none_given bus) program most u → fault_of_cause u.cause ≡ Some kind →
    (start : Registers) → start.bus ≡ bus → Refuses start program most u
