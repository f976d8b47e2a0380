-- What `dmasim asm` prints for an input.
use Rattle.std.specs.Prelude.{◌≡◌, ◌≢◌, ◌⊎◌, ℕ, ◌++◌, ◌∷◌, [], List, Result, Ok, Err, codes, decimal}
use Rattle.dma_insn.specs.declared.assembler.AsmCause.TheVariants.{Mnemonic, Operand, Range}
use Rattle.dma_insn.specs.declared.assembler.AsmFault.TheVariants.{Line, ProgramTooLong, NoMemory}
use Rattle.dma_insn.specs.AssemblyText.{Assembles, IsFirstFault}
use Rattle.dma_insn.specs.{declared.assembler.AsmCause.AsmCause, declared.assembler.AsmFault.AsmFault, LineReading.assembled}
use Rattle.dma_io.specs.{Command.Printed, Command.refusal, Printing.program_lines}

-- the name of a cause
abbrev pub cause_name : AsmCause → List ℕ
cause_name Mnemonic = codes "mnemonic"
cause_name Operand = codes "operand"
cause_name Range = codes "range"

-- the line of a fault; `NoMemory` has none, so this is the empty list
abbrev pub fault_line : AsmFault → List ℕ
fault_line (Line n cause) = codes "line " ++ decimal n ++ codes ": " ++ cause_name cause
fault_line (ProgramTooLong n) = codes "line " ++ decimal n ++ codes ": ProgramTooLong"
fault_line NoMemory = []

-- What is printed for an assembled text: the bytes of its program, with status 0, or its first fault, as a refusal.
abbrev pub asm_printed_of : Result (List ℕ) AsmFault → Printed
asm_printed_of (Ok program) = record { groups = program_lines program ∷ []; status = 0 }
asm_printed_of (Err fault) = refusal (fault_line fault)

-- What is printed for an input.
abbrev pub asm_printed : List ℕ → Printed
asm_printed input = asm_printed_of (assembled input)

-- What is printed, stated with the relations between texts and programs alone. Each input either assembles to a
-- program, whose bytes are printed with status 0, or has a first fault other than `NoMemory`, whose line is printed as
-- a refusal.
pub record AsmPrints : Type 0 where
  pub one : (input : List ℕ)
      → ((program : List ℕ) × Assembles input program) ⊎ ((fault : AsmFault) × (fault ≢ NoMemory) × IsFirstFault input fault)
  pub program : (input program : List ℕ) → Assembles input program
      → asm_printed input ≡ record { groups = program_lines program ∷ []; status = 0 }
  pub fault : (input : List ℕ) (fault : AsmFault) → fault ≢ NoMemory → IsFirstFault input fault
      → asm_printed input ≡ refusal (fault_line fault)
