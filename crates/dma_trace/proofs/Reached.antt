-- A run without memory as far as an instruction that is refused.
use Rattle.std.proofs.Common.{◌≡◌, ◌≢◌, ℕ, suc, ◌+◌, ◌≤◌, ◌<◌, true, List, [], ◌∷◌, ◌++◌, Option, None, Result, Ok, Err, refl, sym, ap, subst, ◌∙◌, arith}
use Rattle.std.specs.Prelude.{IfOk, OnOk, slice_get}
use Rattle.dma_insn.specs.declared.chip.ChipInsn.{ChipInsn}
use Rattle.dma_chan.specs.{declared.exec.Registers.Registers, declared.turn.FaultKind.FaultKind, Next.next_on}
use Rattle.dma_explain.specs.Explains.{GoesOn, Trace, next_in, traced}
use Rattle.dma_explain.specs.{declared.explain.Cause.Cause, declared.explain.Cause.TheVariants.UsesUnknown, declared.explain.Explained.Explained}
use Rattle.dma_explain.specs.{declared.explain.Unexplained.Unexplained, declared.explain.known.Given.Given, declared.explain.known.Known.Known}
use Rattle.dma_explain.specs.declared.explain.known.Register.{Register}
use Rattle.dma_explain.specs.declared.explain.known.Register.TheVariants as registers
use Rattle.dma_explain.specs.declared.explain.tracer.Tracer.{Tracer}
use Rattle.dma_explain.specs.{Explains.Finds, Known.FindsFrom, Known.RefusesFor, Known.RefusesFrom, Known.all_given}
use Rattle.dma_explain.specs.inner.{Knowing.Halts, Knowing.HaltsFor, Knowing.first_unknown, Knowing.known_after, Knowing.over_in}
use Rattle.dma_explain.specs.{Uses.uses, inner.Tracing.Follows, inner.Tracing.Leads, inner.Tracing.Stops}
use Rattle.dma_explain.proofs.{Explaining.next_here, Knowing.begins_given}
use Rattle.dma_trace.specs.{Explained.unexplained_text, Front.front_at, Front.front_of, Touches.after_next, Touches.after_touch, Touches.conflict_text}
use Rattle.dma_trace.specs.{Touches.touches_in, Words.cause_text, Words.refusal_text, declared.touches.Touches.Touches, declared.words.Front.Front}

-- an instruction that goes on was fetched
pub never : (program : List ℕ) (z : Trace) (kind : FaultKind) → next_in program z ≡ Err kind → GoesOn (next_in program z) z → ⊥
never program z kind next goes = grind (arith, sym, ap)

-- ---- known registers

-- all of them
abbrev pub all_known : Known
all_known = record { sar = true; dar = true; ccr = true; lc0 = true; lc1 = true }

-- then none is found that isn't known
pub none_unknown : (rs : List Register) → first_unknown all_known rs ≡ None
none_unknown [] = refl
none_unknown (registers.Sar ∷ rest) = none_unknown rest
none_unknown (registers.Dar ∷ rest) = none_unknown rest
none_unknown (registers.Ccr ∷ rest) = none_unknown rest
none_unknown (registers.Lc0 ∷ rest) = none_unknown rest
none_unknown (registers.Lc1 ∷ rest) = none_unknown rest

-- they stay known
pub all_stay : (i : ChipInsn) (k : Known) → k ≡ all_known → known_after i k ≡ all_known
all_stay i k e = subst (λ (q : Known). known_after i q ≡ all_known) (sym e) (stay i)
  where
    stay : (i : ChipInsn) → known_after i all_known ≡ all_known
    stay i = grind arith

-- a tracer has its own registers
pub leads_alone : (start : Registers) (program : List ℕ) (m : ℕ) (x y : Tracer) → x.known ≡ all_known → y.known ≡ all_known
    → ((s : Registers) → Leads program m (over_in x.known s x) (over_in y.known s y)) → Leads program m x y
leads_alone start program m x y e f leads =
    subst (λ (k : Known). Leads program m (over_in k start x) y) e
    (subst (λ (k : Known). Leads program m (over_in x.known start x) (over_in k start y)) f (leads start))

-- and an instruction that isn't executed is part of no work
pub halts_alone : (i : ChipInsn) (x : Tracer) (cause : Cause) → x.known ≡ all_known → Halts i x cause → Stops i x cause
halts_alone i x cause e h =
    subst (λ (o : Option Register). HaltsFor o i x cause)
    (subst (λ (k : Known). first_unknown k (uses x.registers.bus x.held i) ≡ None) (sym e) (none_unknown (uses x.registers.bus x.held i))) h

-- ---- what is found from given registers

-- the instructions before a refusal go on
goes_for : (cause : Cause) (given : Given) (program : List ℕ) (most : ℕ) (u : Unexplained) → RefusesFor cause given program most u
    → (k : ℕ) → k < u.steps → let x = traced given.registers program k in GoesOn (next_in program x) x
goes_for (UsesUnknown r) given program most u h = (h.1 given.registers (begins_given given)).goes
goes_for cause given program most u h = (h given.registers (begins_given given)).goes

pub refused_goes : (given : Given) (program : List ℕ) (most : ℕ) (u : Unexplained) → RefusesFrom given program most u
    → (k : ℕ) → k < u.steps → let x = traced given.registers program k in GoesOn (next_in program x) x
refused_goes given program most u h = goes_for u.cause given program most u h

-- what is found if all registers are known
pub found_from : (given : Given) (start : Registers) (program : List ℕ) (most : ℕ) (x : Explained) → given ≡ all_given start
    → FindsFrom given program most x → Finds start program most x
found_from given start program most x e h = (subst (λ (g : Given). FindsFrom g program most x) e h) start (begins_given (all_given start))

-- ---- further instructions

-- what holds of a result that is no error
pub was_ok : {X : Type 0} {P : Type 0} (r : Result X Cause) → ((cause : Cause) → r ≢ Err cause) → OnOk r P → P
was_ok (Ok n) none h = h
was_ok (Err cause) none h = absurd (none cause refl)

-- one instruction was executed
pub one_more : (start : Registers) (program : List ℕ) (n : ℕ) (x y : Tracer) (r : Result ℕ Cause) → ((cause : Cause) → r ≢ Err cause)
    → IfOk r (λ m. (1 ≤ m) × (m ≤ 1)) → IfOk r (λ m. Leads program m x y) → Follows start program n x → Follows start program (n + 1) y
one_more x0 x1 x2 x3 x4 x5 x6 x7 x8 x9 = grind (arith, subst, arith, refl)

-- after this number of instructions of a program that begins with these registers
module _ (start : Registers) (program : List ℕ) where
  abbrev there : ℕ → Trace
  there = traced start program

  -- the loads and stores of an address, with one more instruction
  pub touches_on : (n a : ℕ) (x : Tracer) (i : ChipInsn) (t u : Touches) → Follows start program n x
      → Ok i ≡ next_on x.registers.bus program x.registers.pc → t ≡ touches_in start program a n → u ≡ after_touch i a (n + 1) x.registers t
      → u ≡ touches_in start program a (n + 1)
  touches_on n a x i t u w next is to =
      let number : suc n ≡ n + 1 = omega arith in
      to
      ∙ ap (after_touch i a (n + 1) x.registers) is
      ∙ ap (λ (z : Trace). after_touch i a (n + 1) z.registers (touches_in start program a n)) w.reaches.trace
      ∙ ap (λ r. after_next r a (n + 1) (there n).registers (touches_in start program a n)) (sym (next_here start program n x (Ok i) w next))
      ∙ ap (touches_in start program a) number

  -- the registers and the buffer there
  pub front_here : (n : ℕ) (x : Tracer) → Follows start program n x → front_of x.registers x.held ≡ front_at (there n)
  front_here n x w = ap (front_of x.registers) w.tracer.held ∙ ap front_at w.reaches.trace

  -- what is printed of a program that is refused
  abbrev refusal : Unexplained → Front → Option ℕ → Result ChipInsn FaultKind → Touches → List ℕ
  refusal u f first next t = refusal_text (cause_text u.cause first next u.steps f ++ conflict_text u.cause u.addr t) first next u.steps f u.stored

  pub cause_printed : (u : Unexplained) (f : Front) (first : Option ℕ) (next : Result ChipInsn FaultKind) (t : Touches) → f ≡ front_at (there u.steps)
      → first ≡ slice_get program f.registers.pc → next ≡ next_on f.registers.bus program f.registers.pc → t ≡ touches_in start program u.addr u.steps
      → refusal u f first next t ≡ unexplained_text start program u
  cause_printed u f first next t at byte is touches = grind (arith, ap, sym, refl)
