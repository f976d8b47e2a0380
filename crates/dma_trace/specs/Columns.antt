-- Numbers and instructions in columns.
use Rattle.std.specs.Prelude.{ℕ, ◌-◌, List, ◌++◌, length, replicate, decimal}
use Rattle.dma_insn.specs.declared.chip.ChipInsn.{ChipInsn}
use Rattle.dma_manual.specs.ManualText.{manual_text}

-- this number of spaces
abbrev pub spaces : ℕ → List ℕ
spaces n = replicate n 32

-- a number, with spaces before it up to a width
abbrev pub aligned : ℕ → ℕ → List ℕ
aligned width n = spaces (width - length (decimal n)) ++ decimal n

-- an instruction, with spaces after it up to 58, the width of the longest one
abbrev pub insn_column : ChipInsn → List ℕ
insn_column i = manual_text i ++ spaces (58 - length (manual_text i))
