-- Runs without memory that differ only in registers that aren't known.
use Rattle.std.proofs.Common.{◌≡◌, ◌≢◌, ℕ, zero, suc, ◌+◌, ◌≤◌, Bool, true, false, cond, ◌&&◌, List, [], ◌∷◌, length, Option, Some, None, Result, Ok, refl, sym, ap}
use Rattle.std.proofs.Common.{◌∙◌, ◌*◌, subst, arith, inl, inr}
use Rattle.std.specs.List.{Contains}
use Rattle.std.specs.Prelude.{IfErr, IfOk, OnOk, nat_lt}
use Rattle.std.proofs.lemmas.Result.{IfErr-weaker, on_ok_weaker}
use Rattle.std.proofs.lemmas.{Bool.cases_Bool, Bool.Decides.nat_tests}
use Rattle.dma_insn.specs.declared.chip.Address.TheVariants.{Destination, Source}
use Rattle.dma_insn.specs.declared.chip.ChipInsn.TheVariants.{AddHalfword, End, Ld, Lp, LpEnd, Mov, Sev, St, StoreZeros, Wfe}
use Rattle.dma_insn.specs.declared.insn.Counter.TheVariants.{Lc0, Lc1}
use Rattle.dma_insn.specs.declared.insn.Reg.TheVariants.{Ccr, Dar, Sar}
use Rattle.dma_insn.specs.{declared.chip.ChipInsn.ChipInsn, declared.insn.Counter.Counter, Chip.spelling}
use Rattle.dma_chan.specs.declared.bus.Bus.TheVariants.{Chip, Ideal}
use Rattle.dma_chan.specs.Exec.{begun, counter_of, destination_of, looped, moved, source_of}
use Rattle.dma_chan.specs.{declared.bursts.Burst.Burst, declared.bus.Bus.Bus, declared.exec.Registers.Registers, Bursts.burst_at, Bursts.drops, Bus.accepts, Next.next_on}
use Rattle.dma_chan.specs.declared.turn.FaultKind.TheVariants.{OperandInvalid}
use Rattle.dma_explain.specs.declared.explain.Cause.TheVariants.{DropsBytes, Fails}
use Rattle.dma_explain.specs.declared.explain.known.Register.TheVariants as registers
use Rattle.dma_explain.specs.{declared.explain.Cause.Cause, declared.explain.known.Known.Known, declared.explain.known.Register.Register}
use Rattle.dma_explain.specs.Explains.{Trace, after_insn, held, stop_of_insn, stop_of_mov, untraced}
use Rattle.dma_explain.specs.Known.{MayBegin, is_known}
use Rattle.dma_explain.specs.{Items.Items, Items.with_burst, Uses.compares, Uses.register_of, Uses.uses}
use Rattle.dma_explain.specs.inner.Knowing.{Halts, HaltsFor, LacksOne, Takes, first_unknown, lacks, known_after, over, over_in}
use Rattle.dma_explain.specs.inner.Tracing.{Advances, CountsOf, Follows, IsCopied, IsNew, IsTracer, Leads, Stops, lists_of, total_of, trace_of}
use Rattle.dma_explain.specs.{declared.explain.Explained.Explained, declared.explain.known.Given.Given}
use Rattle.dma_explain.specs.{declared.explain.tracer.Tracer.Tracer}
use Rattle.dma_explain.specs.{declared.explain.Amounts.Amounts, declared.explain.EventSync.EventSync}
use Rattle.dma_explain.proofs.Explaining.{follows_new, follows_on}
use Rattle.dma_explain.proofs.TracerSteps.{Happens}

-- ---- known registers

pub one_known : (k : Known) (r : Register) → first_unknown k (r ∷ []) ≡ None → is_known r k ≡ true
one_known k r h = grind arith

pub two_known : (k : Known) (r q : Register) → first_unknown k (r ∷ q ∷ []) ≡ None → (is_known r k ≡ true) × (is_known q k ≡ true)
two_known k r q h = grind arith

-- the first of two
first_known : (k : Known) (r : Register) (rest : List Register) → first_unknown k (r ∷ rest) ≡ None → (is_known r k ≡ true) × (first_unknown k rest ≡ None)
first_known k r rest h = grind arith

-- ---- drops

-- two changes of the next store drop alike, if they do where the stores are compared
drops_alike : (bus : Bus) (n : ℕ) (a b c d : Burst) → (compares bus n ≡ true → drops bus a b ≡ drops bus c d)
    → (nat_lt 0 n && drops bus a b) ≡ (nat_lt 0 n && drops bus c d)
drops_alike Ideal n a b c d h = refl
drops_alike (Chip width) n a b c d h = elim (cases_Bool (nat_lt 0 n)) [
  | inl some ↦ ap (λ (x : Bool). nat_lt 0 n && x) (h some)
  | inr none ↦ rw none refl
]

-- a DMAMOV CCR drops bytes by the control words alone
drops_control : (bus : Bus) (a b w v : ℕ) → drops bus (burst_at bus 14 a w) (burst_at bus 14 a v) ≡ drops bus (burst_at bus 14 b w) (burst_at bus 14 b v)
unfolding burst_at
drops_control bus a b w v = grind (arith, nat_tests)

-- ---- an instruction that uses only known registers

abbrev pub over_at : Known → Registers → Trace → Trace
over_at k s z = record z { registers = over k s z.registers }

-- It does the same whatever the others are.
pub record Alike (k : Known) (s : Registers) (i : ChipInsn) (z : Trace) : Type 0 where
  pub stop : stop_of_insn i (over_at k s z) ≡ stop_of_insn i z
  pub trace : after_insn i (over_at k s z) ≡ over_at (known_after i k) s (after_insn i z)
  pub items : (x : Items) → with_burst (Ok i) (over k s z.registers) x ≡ with_burst (Ok i) z.registers x

source_alike : (k : Known) (s r : Registers) → k.sar ≡ true → k.ccr ≡ true → source_of (over k s r) ≡ source_of r
source_alike k s r a c = rw (a, c) refl

destination_alike : (k : Known) (s r : Registers) → k.dar ≡ true → k.ccr ≡ true → destination_of (over k s r) ≡ destination_of r
destination_alike k s r a c = rw (a, c) refl

looped_alike : (n : ℕ) (c : Counter) (back : ℕ) (k : Known) (s r : Registers) → is_known (register_of c) k ≡ true
    → looped n c back (over k s r) ≡ over k s (looped n c back r)
looped_alike zero Lc0 back k s r e = refl
looped_alike zero Lc1 back k s r e = refl
looped_alike (suc n) Lc0 back k s r e = rw e refl
looped_alike (suc n) Lc1 back k s r e = rw e refl

-- the trace after a DMALPEND
jumps_alike : (k : Known) (s : Registers) (c : Counter) (back : ℕ) (z : Trace) → is_known (register_of c) k ≡ true
    → counter_of c (over k s z.registers) ≡ counter_of c z.registers
    → after_insn (LpEnd c back) (over_at k s z) ≡ over_at k s (after_insn (LpEnd c back) z)
jumps_alike k s c back z e same =
    ap (λ (n : ℕ). record z { registers = looped n c back (over k s z.registers) }) same
    ∙ ap (λ (r : Registers). record z { registers = r }) (looped_alike (counter_of c z.registers) c back k s z.registers e)

-- the cause of a change of the next store
mov_alike : (k : Known) (s : Registers) (i : ChipInsn) (z : Trace) → let r = z.registers in
    (compares r.bus (held z) ≡ true → drops r.bus (destination_of (over k s r)) (destination_of (moved i (over k s r)))
    ≡ drops r.bus (destination_of r) (destination_of (moved i r))) → stop_of_mov i (over_at k s z) ≡ stop_of_mov i z
mov_alike k s i z h =
    let r = z.registers in
    ap (λ (b : Bool). cond b (Some DropsBytes) None)
    (drops_alike r.bus (held z) (destination_of (over k s r)) (destination_of (moved i (over k s r))) (destination_of r) (destination_of (moved i r)) h)

pub alike : (k : Known) (s : Registers) (i : ChipInsn) (z : Trace) → first_unknown k (uses z.registers.bus (held z) i) ≡ None → Alike k s i z
alike k s Ld z h = let e = two_known k registers.Sar registers.Ccr h in record {
  stop = rw (e.0, e.1) refl;
  trace = rw (e.0, e.1) refl;
  items = λ x. rw (e.0, e.1) refl;
}
alike k s St z h = let e = two_known k registers.Dar registers.Ccr h in record {
  stop = rw (e.0, e.1) refl;
  trace = rw (e.0, e.1) refl;
  items = λ x. rw (e.0, e.1) refl;
}
alike k s StoreZeros z h = let e = two_known k registers.Dar registers.Ccr h in record {
  stop = rw (e.0, e.1) refl;
  trace = rw (e.0, e.1) refl;
  items = λ x. rw (e.0, e.1) refl;
}
alike k s (Mov Sar v) z h = record { stop = refl; trace = refl; items = λ x. refl }
alike k s (Mov Dar v) z h = record {
  stop = mov_alike k s (Mov Dar v) z (λ c. let e = two_known k registers.Dar registers.Ccr (rw c at h) in rw (e.0, e.1) refl);
  trace = refl;
  items = λ x. refl;
}
alike k s (Mov Ccr w) z h =
    let r = z.registers in
    record {
      stop =
          ap (λ o. cond (accepts r.bus w) o (Some (Fails OperandInvalid)))
          (mov_alike k s (Mov Ccr w) z (λ c. let e = one_known k registers.Ccr (rw c at h) in rw e (drops_control r.bus (over k s r).dar r.dar r.ccr w)));
      trace = refl;
      items = λ x. refl;
    }
alike k s (AddHalfword Source half negative) z h = let e = one_known k registers.Sar h in record {
  stop = refl;
  trace = rw e refl;
  items = λ x. refl;
}
alike k s (AddHalfword Destination half negative) z h = let e = first_known k registers.Dar _ h in record {
  stop =
      mov_alike k s (AddHalfword Destination half negative) z
      (λ c. let f = one_known k registers.Ccr (rw c at e.1) in rw (e.0, f) refl);
  trace = rw (e.0) refl;
  items = λ x. refl;
}
alike k s (LpEnd Lc0 back) z h = let e = one_known k registers.Lc0 h in record {
  stop = rw e refl;
  trace = jumps_alike k s Lc0 back z e (rw e refl);
  items = λ x. refl;
}
alike k s (LpEnd Lc1 back) z h = let e = one_known k registers.Lc1 h in record {
  stop = rw e refl;
  trace = jumps_alike k s Lc1 back z e (rw e refl);
  items = λ x. refl;
}
alike k s (Lp Lc0 n) z h = record { stop = refl; trace = refl; items = λ x. refl }
alike k s (Lp Lc1 n) z h = record { stop = refl; trace = refl; items = λ x. refl }
alike k s i z h = record { stop = refl; trace = refl; items = λ x. refl }

-- ---- tracers

-- one more instruction
pub over_advances : (k : Known) (s : Registers) (i : ChipInsn) (x y : Tracer) → IsTracer x
    → first_unknown k (uses x.registers.bus x.held i) ≡ None → Advances i x y → Advances i (over_in k s x) (over_in (known_after i k) s y)
over_advances k s i x y h none a =
    let w = alike k s i (trace_of x) (ap (λ (n : ℕ). first_unknown k (uses x.registers.bus n i)) (sym h.held) ∙ none) in
    record {
      tracer = record { few = a.tracer.few; held = a.tracer.held; room = a.tracer.room; done = a.tracer.done; items = a.tracer.items };
      goes = w.stop ∙ a.goes;
      trace = ap (over_at (known_after i k) s) a.trace ∙ sym w.trace;
      events = a.events;
      lists = a.lists ∙ sym (w.items (lists_of x));
      bursts = a.bursts;
      late = a.late;
    }

pub over_follows : (s : Registers) (program : List ℕ) (x y : Tracer) (i : ChipInsn) → IsTracer x → Ok i ≡ next_on x.registers.bus program x.registers.pc
    → i ≢ End → Takes i x y → y.registers.pc ≤ x.registers.pc + length (spelling i) → total_of y ≤ total_of x + 256
    → Leads program 1 (over_in x.known s x) (over_in y.known s y)
over_follows s program x y i h e other t jump more =
    follows_on program (over_in x.known s x) (over_in y.known s y) i e other
    (subst (λ (k : Known). Advances i (over_in x.known s x) (over_in k s y)) (sym t.after) (over_advances x.known s i x y h t.known t.advances)) jump more

-- DMAWFE and DMASEV use and set no register
pub syncs_use : (i : ChipInsn) (s : EventSync) (x : Tracer) → Happens i s → lacks i x ≡ None
syncs_use (Wfe e v) s x h = refl
syncs_use (Sev e) s x h = refl
syncs_use i s x h =
    let none : Amounts = record { copied = 0; cleared = 0 } in
    absurd (let bad : [] ≡ record { sync = s; done = none } ∷ [] = h none in cc)

pub syncs_set : (i : ChipInsn) (s : EventSync) (k : Known) → Happens i s → k ≡ known_after i k
syncs_set (Wfe e v) s k h = refl
syncs_set (Sev e) s k h = refl
syncs_set i s k h =
    let none : Amounts = record { copied = 0; cleared = 0 } in
    absurd (let bad : [] ≡ record { sync = s; done = none } ∷ [] = h none in cc)

-- ---- instructions that aren't executed

pub halts : (i : ChipInsn) (x : Tracer) (cause : Cause) → lacks i x ≡ None → Stops i x cause → Halts i x cause
halts i x cause none h = subst (λ (o : Option Register). HaltsFor o i x cause) (sym none) h

pub halts_lacking : (i : ChipInsn) (x : Tracer) (cause : Cause) → LacksOne x.known (uses x.registers.bus x.held i) cause → Halts i x cause
halts_lacking i x cause h = subst (λ (o : Option Register). HaltsFor o i x cause) (sym h.1) h.2

pub takes_if : {X : Type 0} (i : ChipInsn) (x y : Tracer) (done : Result X Cause) → lacks i x ≡ None → y.known ≡ known_after i x.known
    → OnOk done (Advances i x y) → OnOk done (Takes i x y)
takes_if i x y done none after = on_ok_weaker done (λ a. record { known = none; after = after; advances = a })

pub halts_if : {X : Type 0} (i : ChipInsn) (x : Tracer) (done : Result X Cause) → lacks i x ≡ None → IfErr done (λ cause. Stops i x cause)
    → IfErr done (λ cause. Halts i x cause)
halts_if i x done none = IfErr-weaker done _ _ (λ cause h. halts i x cause none h)

-- ---- runs from each start

-- the first unknown register isn't known, and is one of those that are used
pub found_unknown : (k : Known) (rs : List Register) (r : Register) → first_unknown k rs ≡ Some r → (is_known r k ≡ false) × Contains rs r
found_unknown k [] r e = absurd (let bad : None ≡ Some r = e in cc)
found_unknown k (q ∷ rest) r e = elim (cases_Bool (is_known q k)) [
  | inl known ↦
      let later = found_unknown k rest r (rw known at e) in
      let found = later.1 in
      (later.0, (suc found.0, omega (arith, found.1), found.2))
  | inr unknown ↦
      let same : Some q ≡ Some r = rw unknown at e in
      let is : q ≡ r = cc in
      (subst (λ (p : Register). is_known p k ≡ false) is unknown, (zero, omega arith, is))
]

-- known registers stay known
pub stays_known : (i : ChipInsn) (k : Known) (r : Register) → is_known r k ≡ true → is_known r (known_after i k) ≡ true
stays_known i k r e = grind arith

-- what a tracer keeps after this number of instructions, whatever its registers
pub record Keeps (program : List ℕ) (n : ℕ) (x : Tracer) : Type 0 where
  pub tracer : IsTracer x
  pub pc : x.registers.pc ≤ length program
  pub stored : total_of x ≤ 256 * n
  pub counts : CountsOf n x.bursts

pub keeps_over : (k : Known) (s : Registers) (program : List ℕ) (n : ℕ) (x : Tracer) → Follows s program n (over_in k s x) → Keeps program n x
keeps_over k s program n x w = record {
  tracer = record { few = w.tracer.few; held = w.tracer.held; room = w.tracer.room; done = w.tracer.done; items = w.tracer.items };
  pc = w.pc;
  stored = w.stored;
  counts = w.counts;
}

pub begins_given : (given : Given) → MayBegin given given.registers
begins_given given = record { bus = refl; same = λ r e. refl }

-- ---- before the first instruction

chosen : (b : Bool) (a c : ℕ) → (b ≡ true → c ≡ a) → cond b a c ≡ c
chosen b a c h = elim (cases_Bool b) [
  | inl known ↦ rw known (sym (h known))
  | inr unknown ↦ rw unknown refl
]

same_registers : (pc sar dar ccr lc0 lc1 a b c d e : ℕ) (bus other : Bus) → sar ≡ a → dar ≡ b → ccr ≡ c → lc0 ≡ d → lc1 ≡ e → bus ≡ other
    → let r : Registers = record { pc = pc; sar = sar; dar = dar; ccr = ccr; lc0 = lc0; lc1 = lc1; bus = bus } in
    let q : Registers = record { pc = pc; sar = a; dar = b; ccr = c; lc0 = d; lc1 = e; bus = other } in r ≡ q
same_registers pc sar dar ccr lc0 lc1 a b c d e bus other h0 h1 h2 h3 h4 h5 = grind arith

over_begun : (given : Given) (s : Registers) → MayBegin given s → over given.known s (begun given.registers) ≡ begun s
over_begun given s m =
    let k = given.known in
    let g = given.registers in
    same_registers 0 _ _ _ _ _ s.sar s.dar s.ccr s.lc0 s.lc1 g.bus s.bus (chosen k.sar g.sar s.sar (m.same registers.Sar))
    (chosen k.dar g.dar s.dar (m.same registers.Dar)) (chosen k.ccr g.ccr s.ccr (m.same registers.Ccr))
    (chosen k.lc0 g.lc0 s.lc0 (m.same registers.Lc0)) (chosen k.lc1 g.lc1 s.lc1 (m.same registers.Lc1)) (sym m.bus)

pub over_new : (given : Given) (s : Registers) (program : List ℕ) (x : Tracer) → MayBegin given s → IsNew given.registers x
    → Follows s program 0 (over_in given.known s x)
over_new given s program x m h =
    let k = given.known in
    follows_new s program (over_in k s x) (record {
      tracer = record { few = h.tracer.few; held = h.tracer.held; room = h.tracer.room; done = h.tracer.done; items = h.tracer.items };
      trace = ap (over_at k s) h.trace ∙ ap (λ (r : Registers). record (untraced s) { registers = r }) (over_begun given s m);
      events = h.events;
      lists = h.lists;
      bursts = h.bursts;
      late = h.late;
    })

-- ---- further instructions

-- the run from a start goes on
pub leads_on : (program : List ℕ) (x y : Tracer) (s : Registers) (n m : ℕ) (r : Result ℕ Cause) → r ≡ Ok m
    → IfOk r (λ j. (start : Registers) → Leads program j (over_in x.known start x) (over_in y.known start y)) → Follows s program n (over_in x.known s x)
    → Follows s program (n + m) (over_in y.known s y)
leads_on program x y s n m r e leads w = (rw e at leads) s s n w

-- ---- DMAEND

pub over_copied : (k : Known) (s : Registers) (x : Tracer) (count : ℕ) (y : Explained) → IsCopied x count y → IsCopied (over_in k s x) count y
over_copied k s x count y c = record {
  src = c.src;
  dst = c.dst;
  zeros = c.zeros;
  size = c.size;
  events = c.events;
  steps = c.steps;
  bursts = c.bursts;
  late = c.late;
  ends = c.ends;
}
