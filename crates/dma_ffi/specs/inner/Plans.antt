-- The program of a transfer that may not have been made.
use Rattle.std.specs.Prelude.{◌≡◌, ◌≤◌, ◌⊎◌, ℕ, ℤ, List, Result, Ok, Err, length}
use Rattle.dma_mem.specs.{Places.Descriptor, declared.transfer.TransferFault.TransferFault}
use Rattle.dma_insn.specs.AssemblyText.{most_program_bytes}
use Rattle.dma_chan.specs.{declared.bus.Bus.Bus, Compiled.compiled_on}
use Rattle.dma_ffi.specs.{Codes.no_memory, Codes.transfer_code, Programs.Writes}

-- A buffer is given the program of a transfer that was made, for a bus, or is unchanged if out of memory; or no transfer
-- was made because of a fault, and it is unchanged.
abbrev pub PlansMade : Result Descriptor TransferFault → Bus → ℤ → List ℕ → List ℕ → ℕ → ℕ → Type 0
PlansMade (Ok t) bus code buffer out len written =
    (Writes (compiled_on bus t).bytes code buffer out len written
    × (length (compiled_on bus t).bytes ≤ most_program_bytes))
    ⊎ ((code ≡ no_memory) × (out ≡ buffer) × (written ≡ len))
PlansMade (Err fault) bus code buffer out len written =
    (code ≡ transfer_code fault) × (out ≡ buffer) × (written ≡ len)
