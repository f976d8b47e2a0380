-- What `asm` prints, by what the input assembles to.
use Rattle.std.proofs.Common.{◌≡◌, ◌≢◌, ◌⊎◌, ℕ, List, Result, Ok, Err, refl, ap, inl, inr}
use Rattle.dma_insn.specs.AssemblyText.{Assembles, IsFirstFault}
use Rattle.dma_insn.specs.{declared.assembler.AsmFault.AsmFault, declared.assembler.AsmFault.TheVariants.NoMemory, LineReading.assembled}
use Rattle.dma_insn.proofs.ProgramLaws.{reading_reports}
use Rattle.dma_commands.specs.Assembled.{AsmPrints, asm_printed_of}

program_or_fault : (input : List ℕ) (read : Result (List ℕ) AsmFault) → assembled input ≡ read
    → ((program : List ℕ) × Assembles input program) ⊎ ((fault : AsmFault) × (fault ≢ NoMemory) × IsFirstFault input fault)
program_or_fault input (Ok program) e = inl (program, (reading_reports.program input program).0 e)
program_or_fault input (Err fault) e = let h = (reading_reports.fault input fault).0 e in inr (fault, h.0, h.1)

pub asm_prints : AsmPrints
asm_prints = record {
  one = λ input. program_or_fault input (assembled input) refl;
  program = λ input program a. ap asm_printed_of ((reading_reports.program input program).1 a);
  fault = λ input fault other h. ap asm_printed_of ((reading_reports.fault input fault).1 (other, h));
}
