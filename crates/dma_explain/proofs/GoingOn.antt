-- What it means that an instruction goes on.
use Rattle.std.proofs.Common.{◌≡◌, ◌≢◌, ℕ, zero, suc, ◌+◌, ◌≤◌, ◌<◌, Bool, true, false, cond, ◌&&◌, List, length, Option, Some, None, Result, Ok, ap}
use Rattle.std.proofs.Common.{◌∙◌, arith, length-append}
use Rattle.std.specs.Prelude.{nat_lt}
use Rattle.std.proofs.{lemmas.Bool.le-ltb, lemmas.Bool.ltb-false, lemmas.Bool.Decides.nat_tests, lemmas.List.FromFn.length-range_with_len}
use Rattle.dma_insn.specs.declared.chip.ChipInsn.TheVariants.{Mov, Ld, St, End, LpEnd, StoreZeros, AddHalfword, LoopAgain}
use Rattle.dma_insn.specs.declared.insn.Reg.TheVariants.{Ccr, Dar}
use Rattle.dma_insn.specs.{declared.chip.ChipInsn.ChipInsn, declared.chip.Address.TheVariants.Destination}
use Rattle.dma_mem.specs.Places.{end_of_addresses}
use Rattle.dma_chan.specs.Bursts.{burst_len, drops, span_of, touched}
use Rattle.dma_chan.specs.Exec.{buffer_size, counter_of, destination_of, moved, source_of}
use Rattle.dma_chan.specs.{declared.bursts.Burst.Burst, declared.exec.Registers.Registers, declared.turn.FaultKind.FaultKind, Bus.accepts}
use Rattle.dma_explain.specs.declared.explain.Cause.{Cause}
use Rattle.dma_explain.specs.Explains.{GoesOn, Trace, after_fetch, after_insn, held, next_in, passes, stop_of_insn, stop_of_mov, traced}
use Rattle.dma_chan.proofs.ControlWords.{touched_up}

-- ---- tests in turn

pub none_first : (b : Bool) (c : Cause) (o : Option Cause) → cond b (Some c) o ≡ None → (b ≡ false) × (o ≡ None)
none_first b c o h = grind (arith)

pub none_second : (b : Bool) (c : Cause) (o : Option Cause) → cond b o (Some c) ≡ None → (b ≡ true) × (o ≡ None)
none_second b c o h = grind (arith)

pub passed : (b : Bool) (c : Cause) (o : Option Cause) → b ≡ false → o ≡ None → cond b (Some c) o ≡ None
passed b c o e f = ap (λ (x : Bool). cond x (Some c) o) e ∙ f

-- a jump back that is executed stays in the program
pub no_jump : (n pc back : ℕ) → (nat_lt 0 n && nat_lt pc back) ≡ false → 0 < n → back ≤ pc
no_jump n pc back e some = grind (arith, nat_tests)

-- whether an instruction drops bytes that are held
abbrev pub dropped : ChipInsn → Trace → Bool
dropped i x = let r = x.registers in nat_lt 0 (held x) && drops r.bus (destination_of r) (destination_of (moved i r))

-- DMAMOV while the buffer is empty
pub mov_empty : (i : ChipInsn) (x : Trace) → held x ≡ 0 → stop_of_mov i x ≡ None
mov_empty i x e = grind (arith, passed, le-ltb)

-- a burst that ends at or below the last address
pub ends_low : (b : Burst) → b.addr + span_of b ≤ end_of_addresses → passes b ≡ false
ends_low b low = le-ltb end_of_addresses (b.addr + span_of b) low

-- ---- an instruction that goes on

-- the addresses of a burst that rises, as many as its bytes
pub length_up : (b : Burst) → b.increments ≡ true → length (touched b) ≡ burst_len b
length_up b e = ap length (touched_up b e) ∙ length-range_with_len b.addr (burst_len b)

abbrev pub Can : ChipInsn → Trace → Type 0
Can Ld x = length x.loads + burst_len (source_of x.registers) ≤ length x.stores + buffer_size
Can St x =
    (length x.stores + burst_len (destination_of x.registers) ≤ length x.loads)
    × ((destination_of x.registers).increments ≡ true)
Can (Mov Dar v) x = dropped (Mov Dar v) x ≡ false
Can (Mov Ccr w) x = (accepts x.registers.bus w ≡ true) × (dropped (Mov Ccr w) x ≡ false)
Can (AddHalfword Destination half negative) x = dropped (AddHalfword Destination half negative) x ≡ false
Can (LpEnd c back) x = 0 < counter_of c x.registers → back ≤ x.registers.pc
Can End x = ⊥
Can StoreZeros x = (destination_of x.registers).increments ≡ true
Can (LoopAgain counter back) x = back ≤ x.registers.pc
Can i x = Unit {0}

-- no more is stored than loaded
abbrev pub Few : Trace → Type 0
Few x = length x.stores ≤ length x.loads

pub can : (i : ChipInsn) (x : Trace) → Few x → i ≢ End → stop_of_insn i x ≡ None → Can i x
can i x h h2 h3 = grind (arith, none_first, ltb-false, none_second, no_jump)

few_insn : (i : ChipInsn) (x : Trace) → Few x → Can i x → Few (after_insn i x)
few_insn i x h h2 = grind (arith, length-append, length_up)

pub can_next : (i : ChipInsn) (x : Trace) → Few x → GoesOn (Ok i) x → Can i x
can_next i x few go = can i x few (λ e. go.0 (ap (λ (j : ChipInsn). Ok j) e)) go.1

few_next : (r : Result ChipInsn FaultKind) (x : Trace) → Few x → GoesOn r x → Few (after_fetch r x)
few_next r x h h2 = grind (arith, few_insn, can_next)

pub few_at : (start : Registers) (program : List ℕ) (k : ℕ) → ((j : ℕ) → j < k → GoesOn (next_in program (traced start program j)) (traced start program j))
    → Few (traced start program k)
few_at start program zero goes = omega arith
few_at start program (suc k) goes =
    let x = traced start program k in
    few_next (next_in program x) x (few_at start program k (λ j l. goes j (omega arith))) (goes k (omega arith))
