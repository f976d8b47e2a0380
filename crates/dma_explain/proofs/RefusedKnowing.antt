-- Programs that are refused while only some registers are known.
use Rattle.std.proofs.Common.{◌≡◌, ◌≢◌, ℕ, true, false, List, length, Option, Some, None, Ok, refl, sym, ap}
use Rattle.std.proofs.Common.{◌∙◌, ◌<◌, subst, arith, inl, inr, length-append}
use Rattle.std.specs.List.{Contains}
use Rattle.std.proofs.lemmas.{Bool.cases_Bool, Bool.true≢false}
use Rattle.dma_insn.specs.declared.chip.ChipInsn.TheVariants.{End}
use Rattle.dma_insn.specs.{declared.chip.ChipInsn.ChipInsn}
use Rattle.dma_chan.specs.{declared.bus.Bus.Bus, declared.exec.Registers.Registers, Next.next_on}
use Rattle.dma_explain.specs.declared.explain.Cause.TheVariants.{NoMemory, TooLong, UsesUnknown}
use Rattle.dma_explain.specs.declared.explain.known.Register.TheVariants as registers
use Rattle.dma_explain.specs.{declared.explain.Cause.Cause, declared.explain.known.Known.Known, declared.explain.known.Register.Register}
use Rattle.dma_explain.specs.Explains.{Refuses, Trace, held, stop_of_insn, traced, unrolled, written_in}
use Rattle.dma_explain.specs.Known.{MayBegin, RefusesFor, RefusesFrom, UsesUnset, is_known, value_of}
use Rattle.dma_explain.specs.{Uses.uses}
use Rattle.dma_explain.specs.inner.Knowing.{Halts, HaltsFor, first_unknown, lacks, over, over_in}
use Rattle.dma_explain.specs.inner.Tracing.{Follows, IsTracer, total_of, trace_of}
use Rattle.dma_explain.specs.{declared.explain.known.Given.Given}
use Rattle.dma_explain.specs.{declared.explain.Unexplained.Unexplained, declared.explain.tracer.Tracer.Tracer}
use Rattle.dma_mem.specs.Places.{places}
use Rattle.dma_explain.proofs.Explaining.{has_none, never_long, next_here, refuses, stops_here}
use Rattle.dma_explain.proofs.Knowing.{alike, found_unknown}

pub never_unknown : (i : ChipInsn) (z : Trace) (r : Register) → stop_of_insn i z ≢ Some (UsesUnknown r)
never_unknown i z r = grind arith

-- so no instruction stops for that
pub stops_unknown : (i : ChipInsn) (z : Trace) (cause : Cause) → stop_of_insn i z ≡ Some cause → (r : Register) → cause ≢ UsesUnknown r
stops_unknown i z cause e r is = never_unknown i z r (e ∙ ap Some is)

-- a register that isn't known wasn't known before
pub was_unknown : (r : Register) (before now : Known) → (is_known r before ≡ true → is_known r now ≡ true) → is_known r now ≡ false
    → is_known r before ≡ false
was_unknown r before now grows unknown = elim (cases_Bool (is_known r before)) [
  | inl was ↦ absurd (true≢false (sym (grows was) ∙ unknown))
  | inr was ↦ was
]

-- a refusal for another cause
pub refused_for : (cause : Cause) (given : Given) (program : List ℕ) (most : ℕ) (u : Unexplained) → ((r : Register) → cause ≢ UsesUnknown r)
    → ((s : Registers) → MayBegin given s → Refuses s program most u) → RefusesFor cause given program most u
refused_for (UsesUnknown r) given program most u never h = absurd (never r refl)
refused_for cause given program most u never h = h

-- an instruction that uses only known registers stops for the same cause
pub stop_over : (k : Known) (s : Registers) (i : ChipInsn) (x : Tracer) (cause : Cause) → IsTracer x → first_unknown k (uses x.registers.bus x.held i) ≡ None
    → stop_of_insn i (trace_of x) ≡ Some cause → stop_of_insn i (trace_of (over_in k s x)) ≡ Some cause
stop_over k s i x cause h none e =
    (alike k s i (trace_of x) (ap (λ (n : ℕ). first_unknown k (uses x.registers.bus n i)) (sym h.held) ∙ none)).stop ∙ e

-- a register that isn't known has the value with which the program began
unknown_value : (r : Register) (k : Known) (s q : Registers) → is_known r k ≡ false → value_of r (over k s q) ≡ value_of r s
unknown_value registers.Sar k s q e = rw e refl
unknown_value registers.Dar k s q e = rw e refl
unknown_value registers.Ccr k s q e = rw e refl
unknown_value registers.Lc0 k s q e = rw e refl
unknown_value registers.Lc1 k s q e = rw e refl

-- how many bytes are stored
total_there : {s : Registers} {program : List ℕ} {n : ℕ} {x : Tracer} → Follows s program n x → total_of x ≡ length (written_in (traced s program n))
total_there {s} {program} {n} {x} w = grind (arith, length-append)

-- the use of a register that isn't known
pub uses_unset : (k : Known) (s : Registers) (program : List ℕ) (most n : ℕ) (x : Tracer) (i : ChipInsn) (r : Register) (stored : ℕ)
    → Follows s program n (over_in k s x) → Ok i ≡ next_on x.registers.bus program x.registers.pc → n < most → is_known r k ≡ false
    → Contains (uses x.registers.bus x.held i) r → stored ≡ total_of x
    → UsesUnset s program most r (record { cause = UsesUnknown r; pc = x.registers.pc; steps = n; addr = 0; stored = stored })
uses_unset k s program most n x i r stored w next less unknown used total =
    let y = over_in k s x in
    let there : trace_of y ≡ traced s program n = w.reaches.trace in
    let held_there : x.held ≡ held (traced s program n) = w.tracer.held ∙ ap held there in
    let bus_there : x.registers.bus ≡ (traced s program n).registers.bus = ap (λ (z : Trace). z.registers.bus) there in
    let is = next_here s program n y (Ok i) w next in
    record {
      goes = w.reaches.goes;
      few = less;
      pc = ap (λ (z : Trace). z.registers.pc) there;
      uses =
          rw is
          (subst (λ (b : Bus). Contains (uses b (held (traced s program n)) i) r) bus_there
          (subst (λ (j : ℕ). Contains (uses x.registers.bus j i) r) held_there used));
      unset = ap (λ (z : Trace). value_of r z.registers) (sym there) ∙ unknown_value r k s x.registers unknown;
      addr = refl;
      stored = total ∙ total_there w;
    }

-- an instruction that isn't executed refuses the program
pub refused_here : (given : Given) (program : List ℕ) (most n : ℕ) (x : Tracer) (i : ChipInsn) (cause : Cause)
    → ((s : Registers) → MayBegin given s → Follows s program n (over_in x.known s x))
    → ((r : Register) → is_known r given.known ≡ true → is_known r x.known ≡ true) → IsTracer x → Ok i ≡ next_on x.registers.bus program x.registers.pc
    → i ≢ End → n < most → Halts i x cause → cause ≢ NoMemory
    → RefusesFrom given program most (record { cause = cause; pc = x.registers.pc; steps = n; addr = 0; stored = total_of x })
refused_here given program most n x i cause follows grows h next other less halts memory = by (lacks i x) refl halts
  where
    by : (o : Option Register) → lacks i x ≡ o → HaltsFor o i x cause
        → RefusesFrom given program most (record { cause = cause; pc = x.registers.pc; steps = n; addr = 0; stored = total_of x })
    by (Some r) e is =
        let found = found_unknown x.known (uses x.registers.bus x.held i) r e in
        subst (λ (c : Cause). RefusesFrom given program most (record { cause = c; pc = x.registers.pc; steps = n; addr = 0; stored = total_of x })) (sym is) (
          was_unknown r given.known x.known (grows r) found.0,
          λ s may. uses_unset x.known s program most n x i r (total_of x) (follows s may) next less found.0 found.1 refl,
        )
    by None none is =
        let stop = is memory in
        refused_for cause given program most _ (stops_unknown i (trace_of x) cause stop) (λ s may.
        let y = over_in x.known s x in
        let there = stop_over x.known s i x cause h none stop in
        let stops = stops_here s program most n y (Ok i) cause (follows s may) next less there in
        let no_addr = has_none i (trace_of y) other cause (places (unrolled x.src.items)) (written_in (trace_of x)) there in
        refuses s program most n y cause 0 (total_of x) (follows s may) stops no_addr refl)

-- it has a cause of its own
pub halts_short : (i : ChipInsn) (x : Tracer) (cause : Cause) → i ≢ End → Halts i x cause → cause ≢ TooLong
halts_short i x cause other halts long = by (lacks i x) halts
  where
    by : (o : Option Register) → HaltsFor o i x cause → ⊥
    by (Some r) is = let bad : TooLong ≡ UsesUnknown r = sym long ∙ is in cc
    by None is =
        never_long i (trace_of x) other (is (λ memory. let bad : TooLong ≡ NoMemory = sym long ∙ memory in cc) ∙ ap Some long)
