-- Worked rows and the longest input, computed from the definitions.
use Rattle.std.proofs.Common.{◌≡◌, [], ◌∷◌, codes, refl}
use Rattle.dma_io.specs.{Command.longest_input, Printing.program_lines}

no_program_line : program_lines [] ≡ []
no_program_line = refl

program_rows : program_lines (0 ∷ 1 ∷ 2 ∷ 3 ∷ 4 ∷ 5 ∷ 6 ∷ 7 ∷ 8 ∷ 9 ∷ 10 ∷ 11 ∷ 12 ∷ 13 ∷ 14 ∷ 15 ∷ 188 ∷ 64 ∷ []) ≡ codes
    "00 01 02 03 04 05 06 07 08 09 0A 0B 0C 0D 0E 0F" ∷ codes "BC 40" ∷ []
program_rows = refl

longest : longest_input ≡ 4194304
longest = refl
