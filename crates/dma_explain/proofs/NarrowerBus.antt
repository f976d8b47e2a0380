-- A run without memory is the same on chips' buses of all widths, but for the bus. A narrower one drops no bytes where a
-- wider one drops none.
use Rattle.std.proofs.Common.{◌≡◌, ℕ, zero, suc, ◌+◌, ◌-◌, ◌%◌, ◌^◌, ◌≤◌, Bool, true, false, ◌&&◌, List, None, Result, Ok, Err, refl, sym, ap, ◌∙◌, subst}
use Rattle.std.proofs.Common.{arith}
use Rattle.std.specs.Prelude.{◌||◌, not}
use Rattle.std.proofs.{Math.Pow.mod-mod-pow, lemmas.Bool.eq-eqb, lemmas.Bool.eqb-true}
use Rattle.dma_insn.specs.declared.chip.ChipInsn.TheVariants.{Mov, AddHalfword}
use Rattle.dma_insn.specs.declared.insn.Reg.TheVariants.{Ccr, Dar}
use Rattle.dma_insn.specs.{declared.chip.ChipInsn.ChipInsn, declared.chip.Address.TheVariants.Destination}
use Rattle.dma_chan.specs.{declared.bus.Bus.Bus, declared.bus.Bus.TheVariants.Chip, declared.bus.BusWidth.BusWidth, declared.bursts.Burst.Burst}
use Rattle.dma_chan.specs.{declared.exec.Registers.Registers, declared.turn.FaultKind.FaultKind, declared.turn.FaultKind.TheVariants.OperandInvalid}
use Rattle.dma_chan.specs.{Bus.accepts, Bus.bus_code, Bursts.burst_at, Bursts.drops, Exec.moved, Next.next_on}
use Rattle.dma_explain.specs.Explains.{GoesOn, Trace, after_fetch, events_in, next_in, stop_of_insn, stop_of_mov, traced}
use Rattle.dma_explain.specs.OnBuses.{EventsOnWidths, ExplainedNarrower, TracedOnWidths, fits_bus}
use Rattle.dma_explain.specs.{declared.explain.Cause.TheVariants.Fails}
use Rattle.dma_explain.proofs.GoingOn.{none_first, none_second, passed}
use Rattle.dma_explain.proofs.OnBuses.{KeepsOn, MovesSame, explained_there, goes_on, insn_on, registers_on, trace_on, traced_bus}
use Rattle.dma_chan.proofs.MembersByNumber.{bus_moved}

-- ---- bursts

-- a burst is the same on each chip's bus
chip_burst : (v w : BusWidth) (k a c : ℕ) → burst_at (Chip v) k a c ≡ burst_at (Chip w) k a c
unfolding burst_at
chip_burst v w k a c = grind arith

-- equal byte lanes of a wide bus are equal ones of a narrower bus
same_lanes : (a b m n : ℕ) → n ≤ m → a % 2 ^ m ≡ b % 2 ^ m → a % 2 ^ n ≡ b % 2 ^ n
same_lanes a b m n le e =
    let all : m - n + n ≡ m = omega (arith, le) in
    let low : (x : ℕ) → x % 2 ^ m % 2 ^ n ≡ x % 2 ^ n = λ x. ap (λ (k : ℕ). x % 2 ^ k % 2 ^ n) (sym all) ∙ mod-mod-pow x (m - n) n in
    sym (low a) ∙ ap (λ (x : ℕ). x % 2 ^ n) e ∙ low b

or_rest : (x y rest : Bool) → (x ≡ true → y ≡ true) → (not x || rest) ≡ false → (not y || rest) ≡ false
or_rest x y rest h h2 = grind (arith)

and_both : (x y z : Bool) → (y ≡ false → z ≡ false) → (x && y) ≡ false → (x && z) ≡ false
and_both x y z h h2 = grind (arith)

-- a narrower bus drops no bytes where a wider one drops none
drops_less : (wide narrow : BusWidth) (old new : Burst) → bus_code narrow ≤ bus_code wide → drops (Chip wide) old new ≡ false
    → drops (Chip narrow) old new ≡ false
drops_less wide narrow old new le = grind (arith, or_rest, eq-eqb, same_lanes, eqb-true)

-- ---- runs

module _ (width other : BusWidth) where
  source_there : (r : Registers) → r.bus ≡ Chip width → burst_at (Chip other) 0 r.sar r.ccr ≡ burst_at r.bus 0 r.sar r.ccr
  source_there r on = chip_burst other width 0 r.sar r.ccr ∙ ap (λ (b : Bus). burst_at b 0 r.sar r.ccr) (sym on)

  destination_there : (r : Registers) → r.bus ≡ Chip width → burst_at (Chip other) 14 r.dar r.ccr ≡ burst_at r.bus 14 r.dar r.ccr
  destination_there r on = chip_burst other width 14 r.dar r.ccr ∙ ap (λ (b : Bus). burst_at b 14 r.dar r.ccr) (sym on)

  moves_there : (i : ChipInsn) (r : Registers) → r.bus ≡ Chip width → MovesSame (Chip other) i r
  moves_there i r h = grind (arith, source_there, destination_there)

  next_there : (program : List ℕ) (x : Trace) → x.registers.bus ≡ Chip width → next_in program (trace_on (Chip other) x) ≡ next_in program x
  next_there program x on = ap (λ (b : Bus). next_on b program x.registers.pc) (sym on)

  fetch_there : (r : Result ChipInsn FaultKind) (x : Trace) → x.registers.bus ≡ Chip width
      → after_fetch r (trace_on (Chip other) x) ≡ trace_on (Chip other) (after_fetch r x)
  fetch_there r x h = grind (arith, insn_on, moves_there)

  run_there : (start : Registers) (program : List ℕ) (n : ℕ) → start.bus ≡ Chip width
      → traced (registers_on (Chip other) start) program n ≡ trace_on (Chip other) (traced start program n)
  run_there start program zero on = refl
  run_there start program (suc n) on = grind (arith, traced_bus, next_there, fetch_there, run_there start program n on)

  events_there : (start : Registers) (program : List ℕ) (n : ℕ) → start.bus ≡ Chip width
      → events_in (registers_on (Chip other) start) program n ≡ events_in start program n
  events_there start program n h = grind (arith, run_there, next_there, traced_bus)

  -- an instruction that computes the same registers, but for the bus, drops no bytes on a narrower bus
  mov_there : (i : ChipInsn) (x : Trace) → x.registers.bus ≡ Chip width → bus_code other ≤ bus_code width
      → moved i (registers_on (Chip other) x.registers) ≡ registers_on (Chip other) (moved i x.registers) → stop_of_mov i x ≡ None
      → stop_of_mov i (trace_on (Chip other) x) ≡ None
  mov_there i x on le same g = grind (arith, drops_less, destination_there, bus_moved, passed, and_both, none_first)

  keeps_there : (i : ChipInsn) (x : Trace) → x.registers.bus ≡ Chip width → bus_code other ≤ bus_code width → stop_of_insn i x ≡ None → KeepsOn (Chip other) i x
  keeps_there (Mov Dar v) x on le g = mov_there (Mov Dar v) x on le refl g
  keeps_there (Mov Ccr w) x on le g = mov_there (Mov Ccr w) x on le refl (none_second (accepts x.registers.bus w) (Fails OperandInvalid) _ g).1
  keeps_there (AddHalfword Destination half negative) x on le g = mov_there (AddHalfword Destination half negative) x on le refl g
  keeps_there i x on le g = tt

  goes_there : (r : Result ChipInsn FaultKind) (x : Trace) → x.registers.bus ≡ Chip width → bus_code other ≤ bus_code width → fits_bus (Chip other) r ≡ true
      → GoesOn r x → GoesOn r (trace_on (Chip other) x)
  goes_there (Ok i) x on le f g = (g.0, goes_on (Chip other) i x f (moves_there i x.registers on) (keeps_there i x on le g.1) g.1)
  goes_there (Err kind) x on le f g = absurd (let bad = g.1 in cc)

pub traced_on_widths : TracedOnWidths
traced_on_widths start width other program n on = run_there width other start program n on

pub events_on_widths : EventsOnWidths
events_on_widths start width other program n on = events_there width other start program n on

pub explained_narrower : ExplainedNarrower
explained_narrower start wide narrow program w n on le h fit =
    let here : (k : ℕ) → (traced start program k).registers.bus ≡ Chip wide = λ k. traced_bus start program k ∙ on in
    explained_there (Chip narrow) start program w n h (record {
      same = λ k l. run_there wide narrow start program k on;
      goes = λ k l.
          let x = traced start program k in
          subst (λ (r : Result ChipInsn FaultKind). GoesOn r (trace_on (Chip narrow) x)) (sym (next_there wide narrow program x (here k)))
          (goes_there wide narrow (next_in program x) x (here k) le (fit k l) (h.goes k l));
      ends = next_there wide narrow program (traced start program n) (here n) ∙ h.ends;
    })
