-- A run without memory is the same on each bus, but for the bus, if its bursts are the same there: as they are if they
-- begin at multiples of their beats' sizes.
use Rattle.std.proofs.Common.{◌≡◌, ℕ, zero, suc, ◌≤◌, ◌<◌, true, List, None, Result, Ok, Err, refl, sym, ap, ◌∙◌, subst, arith}
use Rattle.std.proofs.lemmas.Bool.{and_from, and_parts}
use Rattle.dma_insn.specs.declared.insn.Reg.TheVariants.{Dar, Ccr}
use Rattle.dma_insn.specs.declared.chip.ChipInsn.TheVariants.{Mov, Ld, St, StoreZeros, AddHalfword, End}
use Rattle.dma_insn.specs.{declared.insn.Counter.Counter}
use Rattle.dma_insn.specs.{declared.chip.ChipInsn.ChipInsn, declared.chip.Address.TheVariants.Destination}
use Rattle.dma_chan.specs.Bursts.{IsAligned}
use Rattle.dma_chan.specs.Exec.{destination_of, looped, source_of}
use Rattle.dma_chan.specs.{declared.bus.Bus.Bus, declared.bus.Bus.TheVariants.Ideal, declared.exec.Registers.Registers, declared.turn.FaultKind.FaultKind}
use Rattle.dma_chan.specs.{Next.next_on}
use Rattle.dma_explain.specs.OnBuses.{ExplainedOnBus, IsAlignedTo, MovesAligned, SetsEmpty, fits_bus}
use Rattle.dma_explain.specs.Explains.{Explains, GoesOn, Trace, Work, after_fetch, after_insn, held, next_in, stop_of_insn, stop_of_mov, traced}
use Rattle.dma_chan.proofs.{ControlWords.same_burst, NextFits.next_widens, MembersByNumber.bus_moved}
use Rattle.dma_explain.proofs.GoingOn.{mov_empty, none_second}

-- a run stays on its bus
insn_bus : (i : ChipInsn) (x : Trace) → (after_insn i x).registers.bus ≡ x.registers.bus
insn_bus i x = grind (arith, bus_moved)

fetch_bus : (r : Result ChipInsn FaultKind) (x : Trace) → (after_fetch r x).registers.bus ≡ x.registers.bus
fetch_bus r x = grind (arith, insn_bus)

pub traced_bus : (start : Registers) (program : List ℕ) (n : ℕ) → (traced start program n).registers.bus ≡ start.bus
traced_bus start program zero = refl
traced_bus start program (suc n) = let x = traced start program n in fetch_bus (next_in program x) x ∙ traced_bus start program n

module _ (bus : Bus) where
  -- the registers, and a run, on the bus
  abbrev pub registers_on : Registers → Registers
  registers_on r = record r { bus = bus }

  abbrev pub trace_on : Trace → Trace
  trace_on x = record x { registers = registers_on x.registers }

  looped_on : (k : ℕ) (c : Counter) (back : ℕ) (r : Registers) → looped k c back (registers_on r) ≡ registers_on (looped k c back r)
  looped_on k c back r = grind (arith)

  -- a burst at a multiple of its beat's size is the same on the bus
  source_on : (r : Registers) → IsAligned (source_of r) → source_of (registers_on r) ≡ source_of r
  source_on r aligned = sym (same_burst r.bus bus 0 r.sar r.ccr aligned)

  destination_on : (r : Registers) → IsAligned (destination_of r) → destination_of (registers_on r) ≡ destination_of r
  destination_on r aligned = sym (same_burst r.bus bus 14 r.dar r.ccr aligned)

  -- an instruction's burst, if it has one, is the same on the bus
  abbrev pub MovesSame : ChipInsn → Registers → Type 0
  MovesSame Ld r = source_of (registers_on r) ≡ source_of r
  MovesSame St r = destination_of (registers_on r) ≡ destination_of r
  MovesSame StoreZeros r = destination_of (registers_on r) ≡ destination_of r
  MovesSame i r = Unit {0}

  aligned_same : (i : ChipInsn) (r : Registers) → MovesAligned (Ok i) r → MovesSame i r
  aligned_same i r h = grind (arith, source_on, destination_on)

  pub insn_on : (i : ChipInsn) (x : Trace) → MovesSame i x.registers → after_insn i (trace_on x) ≡ trace_on (after_insn i x)
  insn_on i x h = grind (arith, looped_on)

  -- an instruction that is fetched on the ideal bus is fetched on the bus
  next_same : (program : List ℕ) (x : Trace) (i : ChipInsn) → x.registers.bus ≡ Ideal → next_in program x ≡ Ok i → next_in program (trace_on x) ≡ Ok i
  next_same program x i ideal next = next_widens bus program x.registers.pc i (ap (λ (b : Bus). next_on b program x.registers.pc) (sym ideal) ∙ next)

  -- each of the first n instructions is fetched on the ideal bus
  abbrev AreFetched : Registers → List ℕ → ℕ → Type 0
  AreFetched start program n = (k : ℕ) → k < n → GoesOn (next_in program (traced start program k)) (traced start program k)

  fetch_on : (program : List ℕ) (r : Result ChipInsn FaultKind) (x : Trace) → x.registers.bus ≡ Ideal → next_in program x ≡ r → GoesOn r x
      → MovesAligned r x.registers → after_fetch (next_in program (trace_on x)) (trace_on x) ≡ trace_on (after_fetch r x)
  fetch_on program (Ok i) x ideal next go a = ap (λ r. after_fetch r (trace_on x)) (next_same program x i ideal next)
      ∙ insn_on i x (aligned_same i x.registers a)
  fetch_on program (Err kind) x ideal next go a = absurd (let bad = go.1 in cc)

  pub traced_on : (start : Registers) (program : List ℕ) (n : ℕ) → start.bus ≡ Ideal → AreFetched start program n → IsAlignedTo start program n
      → traced (record start { bus = bus }) program n ≡ trace_on (traced start program n)
  traced_on start program zero ideal goes a = refl
  traced_on start program (suc n) ideal goes a =
      let x = traced start program n in
      ap (λ (y : Trace). after_fetch (next_in program y) y) (traced_on start program n ideal (λ k l. goes k (omega arith)) (λ k l. a k (omega arith)))
      ∙ fetch_on program (next_in program x) x (traced_bus start program n ∙ ideal) refl (goes n (omega arith)) (a n (omega arith))

  -- an instruction drops no bytes on the bus, if it is one that may drop some
  abbrev pub KeepsOn : ChipInsn → Trace → Type 0
  KeepsOn (Mov Dar v) x = stop_of_mov (Mov Dar v) (trace_on x) ≡ None
  KeepsOn (Mov Ccr w) x = stop_of_mov (Mov Ccr w) (trace_on x) ≡ None
  KeepsOn (AddHalfword Destination half negative) x = stop_of_mov (AddHalfword Destination half negative) (trace_on x) ≡ None
  KeepsOn i x = Unit {0}

  empty_keeps : (i : ChipInsn) (x : Trace) → SetsEmpty (Ok i) (held x) → KeepsOn i x
  empty_keeps i x h = grind (arith, mov_empty)

  pub goes_on : (i : ChipInsn) (x : Trace) → fits_bus bus (Ok i) ≡ true → MovesSame i x.registers → KeepsOn i x → stop_of_insn i x ≡ None
      → stop_of_insn i (trace_on x) ≡ None
  goes_on i x h h2 h3 h4 = grind (arith, and_parts, none_second, and_from)

  goes_next : (program : List ℕ) (r : Result ChipInsn FaultKind) (x : Trace) → x.registers.bus ≡ Ideal → next_in program x ≡ r → fits_bus bus r ≡ true
      → MovesAligned r x.registers → SetsEmpty r (held x) → GoesOn r x → GoesOn (next_in program (trace_on x)) (trace_on x)
  goes_next program (Ok i) x ideal next f a d g =
      subst (λ r. GoesOn r (trace_on x)) (sym (next_same program x i ideal next)) (g.0, goes_on i x f (aligned_same i x.registers a) (empty_keeps i x d) g.1)
  goes_next program (Err kind) x ideal next f a d g = absurd (let bad = g.1 in cc)

  -- the run on the bus is the same, and goes on there
  pub record GoesThere (start : Registers) (program : List ℕ) (n : ℕ) : Type 0 where
    pub same : (k : ℕ) → k ≤ n → traced (registers_on start) program k ≡ trace_on (traced start program k)
    pub goes : (k : ℕ) → k < n → let y = trace_on (traced start program k) in GoesOn (next_in program y) y
    pub ends : next_in program (trace_on (traced start program n)) ≡ Ok End

  pub explained_there : (start : Registers) (program : List ℕ) (w : Work) (n : ℕ) → Explains start program w n → GoesThere start program n
      → Explains (registers_on start) program w n
  explained_there start program w n h there = grind arith

pub explained_on_bus : ExplainedOnBus
explained_on_bus start bus program w n ideal h fit aligned keeps = grind (arith, traced_bus, explained_there, traced_on, goes_next, next_same)
