-- Programs that are explained for any registers.
use Rattle.std.proofs.Common.{◌≡◌, ℕ, ◌-◌, true, List, None, Some, refl, sym, ap, subst, arith}
use Rattle.dma_chan.specs.{declared.bus.Bus.Bus, declared.bus.Bus.TheVariants.Chip, declared.exec.Registers.Registers}
use Rattle.dma_chan.specs.{declared.turn.FaultKind.FaultKind}
use Rattle.dma_explain.specs.AnyRegisters.{AnyExplained, AnyNarrower, AnyRefused}
use Rattle.dma_explain.specs.declared.explain.Cause.TheVariants.{UsesUnknown}
use Rattle.dma_explain.specs.{declared.explain.Cause.Cause, declared.explain.Unexplained.Unexplained}
use Rattle.dma_explain.specs.{Explains.Explains, Explains.Refuses, Explains.work_of, Refusals.fault_of_cause}
use Rattle.dma_explain.specs.Known.{MayBegin, RefusesFor, is_known, none_given, value_of}
use Rattle.dma_explain.specs.declared.explain.known.Given.{Given}
use Rattle.dma_explain.specs.declared.explain.known.Register.{Register}
use Rattle.dma_explain.specs.declared.explain.known.Register.TheVariants as registers
use Rattle.dma_explain.proofs.NarrowerBus.{explained_narrower}
use Rattle.std.proofs.lemmas.Bool.{true≢false}

-- a program may begin with any registers on the bus
pub begins_any : (bus : Bus) (start : Registers) → start.bus ≡ bus → MayBegin (none_given bus) start
begins_any bus start e = record { bus = e; same = none_same bus start }
  where
    none_same : (bus : Bus) (start : Registers) (r : Register) → is_known r (none_given bus).known ≡ true → value_of r start ≡ value_of r (none_given bus).registers
    none_same bus start registers.Sar h = absurd (true≢false (sym h))
    none_same bus start registers.Dar h = absurd (true≢false (sym h))
    none_same bus start registers.Ccr h = absurd (true≢false (sym h))
    none_same bus start registers.Lc0 h = absurd (true≢false (sym h))
    none_same bus start registers.Lc1 h = absurd (true≢false (sym h))

pub any_explained : AnyExplained
any_explained bus program most x finds start e =
    let found = finds start (begins_any bus start e) in
    let is : found.before ≡ x.steps - 1 = omega (arith, found.steps) in
    subst (λ (n : ℕ). Explains start program (work_of x) n) is found.explains

pub any_narrower : AnyNarrower
any_narrower wide narrow program w n less any fits start e =
    let from : Registers = record start { bus = Chip wide } in
    let there : record from { bus = Chip narrow } ≡ start = ap (λ (b : Bus). record start { bus = b }) (sym e) in
    subst (λ (r : Registers). Explains r program w n) there (explained_narrower from wide narrow program w n refl less (any from refl) (fits from refl))

-- a refusal that isn't for an unknown register
refused_known : (cause : Cause) (given : Given) (program : List ℕ) (most : ℕ) (u : Unexplained) (kind : FaultKind) → RefusesFor cause given program most u
    → fault_of_cause cause ≡ Some kind → (start : Registers) → MayBegin given start → Refuses start program most u
refused_known (UsesUnknown r) given program most u kind h e = absurd (let bad : None ≡ Some kind = e in cc)
refused_known cause given program most u kind h e = h

pub any_refused : AnyRefused
any_refused bus program most u kind h e start same = refused_known u.cause (none_given bus) program most u kind h e start (begins_any bus start same)
