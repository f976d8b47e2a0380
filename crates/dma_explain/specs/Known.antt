-- What is found of a program if only some of the registers are known with which it begins, or none of them.
use Rattle.std.specs.Prelude.{◌≡◌, ℕ, ◌<◌, Bool, true, false, List, length, IsOkAnd}
use Rattle.std.specs.List.{Contains}
use Rattle.dma_chan.specs.{declared.exec.Registers.Registers, declared.bus.Bus.Bus, Exec.start_on}
use Rattle.dma_explain.specs.declared.explain.known.Register.TheVariants.{Ccr, Dar, Lc0, Lc1, Sar}
use Rattle.dma_explain.specs.{declared.explain.known.Given.Given, declared.explain.known.Known.Known, declared.explain.known.Register.Register, Uses.uses}
use Rattle.dma_explain.specs.Explains.{Finds, GoesOn, Refuses, held, next_in, traced, written_in}
use Rattle.dma_explain.specs.declared.explain.Cause.TheVariants.{UsesUnknown}
use Rattle.dma_explain.specs.{declared.explain.Cause.Cause, declared.explain.Explained.Explained, declared.explain.Unexplained.Unexplained}

-- the value of a register
abbrev pub value_of : Register → Registers → ℕ
value_of Sar r = r.sar
value_of Dar r = r.dar
value_of Ccr r = r.ccr
value_of Lc0 r = r.lc0
value_of Lc1 r = r.lc1

-- whether a register is among the known ones
abbrev pub is_known : Register → Known → Bool
is_known Sar k = k.sar
is_known Dar k = k.dar
is_known Ccr k = k.ccr
is_known Lc0 k = k.lc0
is_known Lc1 k = k.lc1

-- registers that are all known
abbrev pub all_given : Registers → Given
all_given r = record { registers = r; known = record { sar = true; dar = true; ccr = true; lc0 = true; lc1 = true } }

-- registers on a bus of which none is known
abbrev pub none_given : Bus → Given
none_given bus = record {
  registers = start_on bus;
  known = record { sar = false; dar = false; ccr = false; lc0 = false; lc1 = false };
}

-- A program may begin with these registers: they are on the same bus as the given ones, and have their values in those
-- that are known. In the others they have any.
pub record MayBegin (given : Given) (start : Registers) : Type 0 where
  pub bus : start.bus ≡ given.registers.bus
  pub same : (r : Register) → is_known r given.known ≡ true → value_of r start ≡ value_of r given.registers

-- What is found of a program from given registers: it is found whichever registers the program may begin with.
abbrev pub FindsFrom : Given → List ℕ → ℕ → Explained → Type 0
FindsFrom given program most x = (start : Registers) → MayBegin given start → Finds start program most x

-- A program that begins with these registers uses one of them before it sets it: its first `steps` instructions go on
-- and store `stored` bytes, the next one, at this offset, uses the register, and this has the value with which the
-- program began.
pub record UsesUnset (start : Registers) (program : List ℕ) (most : ℕ) (register : Register) (u : Unexplained) : Type 0 where
  pub goes : (k : ℕ) → k < u.steps → let x = traced start program k in GoesOn (next_in program x) x
  pub few : u.steps < most
  pub pc : u.pc ≡ (traced start program u.steps).registers.pc
  pub uses : let x = traced start program u.steps in
      IsOkAnd (next_in program x) (λ i. Contains (uses x.registers.bus (held x) i) register)
  pub unset : value_of register (traced start program u.steps).registers ≡ value_of register start
  pub addr : u.addr ≡ 0
  pub stored : u.stored ≡ length (written_in (traced start program u.steps))

-- Why a program is refused for this cause, whichever registers it may begin with: it uses one that isn't known, or is
-- refused as from known ones.
abbrev pub RefusesFor : Cause → Given → List ℕ → ℕ → Unexplained → Type 0
RefusesFor (UsesUnknown r) given program most u =
    (is_known r given.known ≡ false)
    × ((start : Registers) → MayBegin given start → UsesUnset start program most r u)
RefusesFor cause given program most u =
    (start : Registers) → MayBegin given start → Refuses start program most u

-- A program is refused for the cause that was found, whichever registers it may begin with.
abbrev pub RefusesFrom : Given → List ℕ → ℕ → Unexplained → Type 0
RefusesFrom given program most u = RefusesFor u.cause given program most u
