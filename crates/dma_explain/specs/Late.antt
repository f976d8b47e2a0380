-- Where a program moves its destination while bytes are in the buffer.
use Rattle.std.specs.{Prelude.ℕ, Prelude.zero, Prelude.suc, Prelude.Bool, Prelude.true, Prelude.false, Prelude.◌&&◌, Prelude.nat_lt, Prelude.if◌then◌else◌}
use Rattle.std.specs.{Prelude.List, Prelude.Option, Prelude.Some, Prelude.None, Prelude.Result, Prelude.Ok, Prelude.Err, Option.option_or}
use Rattle.dma_insn.specs.declared.chip.ChipInsn.TheVariants.{AddHalfword, Mov}
use Rattle.dma_insn.specs.{declared.chip.Address.Address, declared.chip.Address.TheVariants.Destination, declared.chip.ChipInsn.ChipInsn}
use Rattle.dma_insn.specs.{declared.insn.Reg.Reg, declared.insn.Reg.TheVariants.Dar}
use Rattle.dma_chan.specs.{declared.exec.Registers.Registers, declared.turn.FaultKind.FaultKind}
use Rattle.dma_explain.specs.Explains.{Trace, held, next_in, traced}

-- whether a DMAMOV of a register moves the destination
abbrev pub sets_dar : Reg → Bool
sets_dar Dar = true
sets_dar reg = false

-- whether a DMAADDH or DMAADNH of an address moves the destination
abbrev pub adds_dar : Address → Bool
adds_dar Destination = true
adds_dar address = false

-- whether an instruction that is no burst moves the destination
abbrev pub moves_dar : ChipInsn → Bool
moves_dar (Mov reg v) = sets_dar reg
moves_dar (AddHalfword address half negative) = adds_dar address
moves_dar i = false

-- The offset of the first instruction that moves the destination while bytes are in the buffer, if there was one before,
-- or if the instruction at this offset moves it.
abbrev pub late_with : Bool → ℕ → ℕ → Option ℕ → Option ℕ
late_with moves held pc before = if moves && nat_lt 0 held then option_or before (Some pc) else before

-- Among a program's instructions up to this one, the first that moves the destination while bytes are in the buffer has
-- this offset. Among those before this one it is `before`.
abbrev pub late_after : Result ChipInsn FaultKind → Trace → Option ℕ → Option ℕ
late_after (Ok i) x before = late_with (moves_dar i) (held x) x.registers.pc before
late_after (Err kind) x before = before

-- the offset of the first such instruction among a program's first n
abbrev pub late_in : Registers → List ℕ → ℕ → Option ℕ
late_in start program zero = None
late_in start program (suc n) =
    let x = traced start program n in late_after (next_in program x) x (late_in start program n)
