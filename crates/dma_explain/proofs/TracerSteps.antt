-- The instructions of a run without memory, as its tracer keeps them, but for its bursts.
use Rattle.std.proofs.Common.{arith}
use Rattle.std.proofs.Common.{◌≡◌, ◌≢◌, ℕ, Bool, true, false, cond, ◌&&◌, List, [], ◌∷◌, ◌++◌, Option, Some, None, Result, Ok, refl, sym, ap, ◌∙◌}
use Rattle.std.proofs.Common.{Global, Vec, append-nil, subst, IfErr, OnOk}
use Rattle.std.specs.Prelude.{nat_lt}
use Rattle.std.proofs.lemmas.Result.{IfErr-weaker, on_ok_weaker}
use Rattle.dma_insn.specs.declared.chip.ChipInsn.TheVariants.{Mov, Ld, St, End, Sev, Wfe, StoreZeros, AddHalfword}
use Rattle.dma_insn.specs.declared.chip.ChipInsn.{ChipInsn}
use Rattle.dma_chan.specs.Exec.{State, act, destination_of, moved, past, state}
use Rattle.dma_chan.specs.declared.turn.ChanTurn.TheVariants.{Moved, Fault}
use Rattle.dma_chan.specs.{declared.exec.Registers.Registers, declared.turn.ChanTurn.ChanTurn, declared.turn.FaultKind.FaultKind}
use Rattle.dma_chan.specs.{Bursts.drops, inner.Acts.SetsKeeping}
use Rattle.dma_explain.specs.Explains.{Trace, after_insn, amounts_of, counted, happening_of, held, stop_of_insn}
use Rattle.dma_explain.specs.Late.{late_after}
use Rattle.dma_explain.specs.inner.Tracing.{Advances, IsTracer, Stops, lists_of, trace_of}
use Rattle.dma_explain.specs.{declared.explain.BurstCounts.BurstCounts, declared.explain.known.Known.Known}
use Rattle.dma_explain.specs.{declared.explain.Amounts.Amounts, declared.explain.Cause.Cause, declared.explain.Cause.TheVariants.DropsBytes}
use Rattle.dma_explain.specs.{declared.explain.Cause.TheVariants.Fails, declared.explain.Happening.Happening, declared.explain.EventSync.EventSync}
use Rattle.dma_explain.specs.{declared.explain.tracer.Tracer.Tracer, Items.Items, Items.with_burst}
use Rattle.dma_chan.proofs.{CallWrites.act_leads, KeptBytes.drops_same, KeptBytes.kept_none}
use Rattle.dma_explain.proofs.GoingOn.{dropped}

-- ---- instructions that change only registers

abbrev pub IsQuiet : ChipInsn → Type 0
IsQuiet Ld = ⊥
IsQuiet St = ⊥
IsQuiet StoreZeros = ⊥
IsQuiet (Wfe e v) = ⊥
IsQuiet (Sev e) = ⊥
IsQuiet End = ⊥
IsQuiet i = Unit {0}

-- what a tracer keeps after one
record Quiet (i : ChipInsn) (z : Trace) : Type 0 where
  events : (done : Amounts) → happening_of (Ok i) done ≡ []
  bursts : (b : BurstCounts) → b ≡ counted (Ok i) b
  trace : record z { registers = moved i z.registers } ≡ after_insn i z
  lists : (x : Items) → x ≡ with_burst (Ok i) z.registers x

is_quiet : (i : ChipInsn) (z : Trace) → IsQuiet i → Quiet i z
is_quiet i z h = grind (arith)

-- an answer that is no fault
abbrev pub NoFault : ChanTurn → Type 0
NoFault turn = (kind : FaultKind) → turn ≢ Fault kind

-- the fault of an answer as a cause
abbrev pub FaultIs : ChanTurn → Cause → Type 0
FaultIs turn cause = (kind : FaultKind) × (turn ≡ Fault kind) × (cause ≡ Fails kind)

-- an instruction has this answer and sets the registers to `after`, in the state that has nothing else
abbrev SetsAlone : ChipInsn → Registers → ChanTurn → Registers → Type 0
SetsAlone i r turn after = act [] i (state r [] [] []) ≡ (turn, state after [] [] [])

pub keeping_alone : (i : ChipInsn) (r after : Registers) (turn : ChanTurn) → SetsKeeping i r turn after → SetsAlone i r turn after
keeping_alone i r after turn sets = sets [] [] [] [] ∙ ap (λ (xs : List ℕ). (turn, state after xs [] [])) (kept_none r after)

-- ---- why one stops

-- it may drop bytes
abbrev pub drops_by : ChipInsn → Trace → Bool
drops_by (Mov reg v) z = dropped (Mov reg v) z
drops_by (AddHalfword a half negative) z = dropped (AddHalfword a half negative) z
drops_by i z = false

-- the cause of an answer
abbrev stopped : ChanTurn → Bool → Option Cause
stopped (Fault kind) drop = Some (Fails kind)
stopped turn drop = cond drop (Some DropsBytes) None

-- the cause of an answer that is a move or a fault
record Answers (stop : Option Cause) (drop : Bool) (turn : ChanTurn) : Type 0 where
  stop_is : stop ≡ stopped turn drop
  moves : NoFault turn → turn ≡ Moved

moving : (stop : Option Cause) (drop : Bool) → stop ≡ cond drop (Some DropsBytes) None → Answers stop drop Moved
moving stop drop e = record { stop_is = e; moves = λ none. refl }

failing : (kind : FaultKind) (drop : Bool) → Answers (Some (Fails kind)) drop (Fault kind)
failing kind drop = record { stop_is = refl; moves = λ none. absurd (none kind refl) }

-- the answer of one of two
abbrev turn_if : Bool → ChanTurn × State → ChanTurn × State → ChanTurn
turn_if b x y = (cond b x y).0

-- an instruction that moves, and fails if a test holds or doesn't hold
if_fails : (b : Bool) (kind : FaultKind) (s t : State) → Answers (cond b (Some (Fails kind)) None) false (turn_if b (Fault kind, s) (Moved, t))
if_fails b kind s t = grind (arith, moving)

unless_fails : (b drop : Bool) (kind : FaultKind) (s t : State)
    → Answers (cond b (cond drop (Some DropsBytes) None) (Some (Fails kind))) drop (turn_if b (Moved, s) (Fault kind, t))
unless_fails b drop kind s t = grind (arith, moving)

-- a change of SAR drops no bytes
sar_keeps : (z : Trace) → let b = destination_of z.registers in None ≡ cond (nat_lt 0 (held z) && drops z.registers.bus b b) (Some DropsBytes) None
sar_keeps z = grind (arith, drops_same)

answers : (i : ChipInsn) (z : Trace) → IsQuiet i → Answers (stop_of_insn i z) (drops_by i z) (act [] i (state z.registers [] [] [])).0
answers i z h = grind (arith, moving, sar_keeps, unless_fails, if_fails)

-- whether n bytes in the buffer are dropped if the registers become these
abbrev drops_in : Tracer → ℕ → Registers → Bool
drops_in x n r = nat_lt 0 n && drops x.registers.bus (destination_of x.registers) (destination_of r)

module _ (i : ChipInsn) (x : Tracer) (after : Registers) (turn : ChanTurn) (q : IsQuiet i) (h : IsTracer x) (sets : SetsAlone i x.registers turn after)
    (known : Known) (late : Option ℕ) (same : late ≡ late_after (Ok i) (trace_of x) x.late) where
  abbrev z : Trace
  z = trace_of x

  answer : Answers (stop_of_insn i z) (drops_by i z) turn
  answer = subst (Answers (stop_of_insn i z) (drops_by i z)) (ap (λ (y : ChanTurn × State). y.0) sets) (answers i z q)

  pub fails : (kind : FaultKind) → turn ≡ Fault kind → stop_of_insn i z ≡ Some (Fails kind)
  fails kind e = answer.stop_is ∙ ap (λ (t : ChanTurn). stopped t (drops_by i z)) e

  to : NoFault turn → after ≡ moved i x.registers
  to none = grind (arith, act_leads)

  stops_if : NoFault turn → (b : Bool) → drops_by i z ≡ b → stop_of_insn i z ≡ cond b (Some DropsBytes) None
  stops_if none b e = answer.stop_is ∙ ap (λ (t : ChanTurn). stopped t (drops_by i z)) (answer.moves none) ∙ ap (λ (d : Bool). cond d (Some DropsBytes) None) e

  advances : NoFault turn → drops_by i z ≡ false → Advances i x (record x { registers = after; known = known; late = late })
  advances none keeps = grind (arith, is_quiet, stops_if, append-nil)

  -- DMAMOV, DMAADDH and DMAADNH, if the bytes in the buffer are dropped or not
  tested : drops_by i z ≡ dropped i z → NoFault turn → (b : Bool) → drops_in x x.held after ≡ b → drops_by i z ≡ b
  tested may none b e = may ∙ ap (λ (n : ℕ). drops_in x n (moved i x.registers)) (sym h.held) ∙ ap (drops_in x x.held) (sym (to none)) ∙ e

  pub keeps : drops_by i z ≡ dropped i z → NoFault turn → drops_in x x.held after ≡ false → Advances i x (record x { registers = after; known = known; late = late })
  keeps may none e = advances none (tested may none false e)

  pub loses : drops_by i z ≡ dropped i z → NoFault turn → drops_in x x.held after ≡ true → stop_of_insn i z ≡ Some DropsBytes
  loses may none e = stops_if none true (tested may none true e)

  -- the others
  pub on_ok : {X : Type 0} (done : Result X Cause) → drops_by i z ≡ false → OnOk done (NoFault turn) → OnOk done (Advances i x (record x { registers = after; known = known; late = late }))
  on_ok done keeps = on_ok_weaker {P = NoFault turn} {Q = Advances i x (record x { registers = after; known = known; late = late })} done (λ none. advances none keeps)

  pub on_err : {X : Type 0} (done : Result X Cause) → IfErr done (λ cause. FaultIs turn cause) → IfErr done (λ cause. Stops i x cause)
  on_err done = grind (arith, IfErr-weaker)

-- ---- DMAWFE and DMASEV

-- an instruction is one of them
record Syncs (i : ChipInsn) (z : Trace) : Type 0 where
  late : (before : Option ℕ) → before ≡ late_after (Ok i) z before
  bursts : (b : BurstCounts) → b ≡ counted (Ok i) b
  goes : stop_of_insn i z ≡ None
  trace : record z { registers = past i z.registers } ≡ after_insn i z
  items : (x : Items) → x ≡ with_burst (Ok i) z.registers x

abbrev pub Happens : ChipInsn → EventSync → Type 0
Happens i s = (done : Amounts) → happening_of (Ok i) done ≡ record { sync = s; done = done } ∷ []

syncs : (i : ChipInsn) (s : EventSync) (z : Trace) → Happens i s → Syncs i z
syncs (Wfe e v) s z h = record { late = λ before. refl; bursts = λ b. refl; goes = refl; trace = refl; items = λ x. refl }
syncs (Sev e) s z h = record { late = λ before. refl; bursts = λ b. refl; goes = refl; trace = refl; items = λ x. refl }
syncs i s z h =
    let none : Amounts = record { copied = 0; cleared = 0 } in
    absurd (let bad : [] ≡ record { sync = s; done = none } ∷ [] = h none in cc)

pub happen_advances : (i : ChipInsn) (s : EventSync) (x : Tracer) (after : Registers) (events : Vec Happening Global) → IsTracer x → Happens i s
    → after ≡ past i x.registers → events.items ≡ x.events.items ++ record { sync = s; done = x.done } ∷ []
    → Advances i x (record x { registers = after; events = events })
happen_advances i s x after events h is registers pushed =
    let w = syncs i s (trace_of x) is in
    record {
      tracer = record { few = h.few; held = h.held; room = h.room; done = h.done; items = h.items };
      goes = w.goes;
      trace = ap (λ (r : Registers). record (trace_of x) { registers = r }) registers ∙ w.trace;
      events =
          pushed
          ∙ ap (λ (done : Amounts). x.events.items ++ record { sync = s; done = done } ∷ []) h.done
          ∙ ap (λ (es : List Happening). x.events.items ++ es) (sym (is (amounts_of (trace_of x))));
      lists = w.items (lists_of x);
      bursts = w.bursts x.bursts;
      late = w.late x.late;
    }
