-- The input of `dis`: pairs of hexadecimal digits (profile).
use Rattle.std.specs.Prelude.{ℕ, ◌+◌, ◌*◌, Bool, ◌==◌, ◌||◌, if◌then◌else◌, List, [], ◌∷◌, Option, Some, Result, Ok, Err}
use Rattle.dma_text.specs.{Lines.is_blank, Results.◌>>=◌}
use Rattle.dma_script.specs.{Words.hex_digit_of, declared.fault.Cause.TheVariants.Hex, declared.fault.Fault.Fault}

-- whether a byte may separate pairs: a space, a tab, a carriage return or a line feed
abbrev pub is_gap : ℕ → Bool
is_gap b = is_blank b || (b == 13 || b == 10)

-- the number of the line of the byte after b, given the number of the line of b
abbrev pub line_after : ℕ → ℕ → ℕ
line_after line b = if b == 10 then line + 1 else line

-- the fault of a line with a wrong byte or a lone digit
abbrev pub hex_fault : ℕ → Fault
hex_fault line = record { line = line; cause = Hex }

-- the byte that two digits spell, or else the fault of the line, which has the first byte that is not a digit, and any
-- digit before it
abbrev pub pair_of : ℕ → Option ℕ → Option ℕ → Result ℕ Fault
pair_of line (Some high) (Some low) = Ok (16 * high + low)
pair_of line high low = Err (hex_fault line)

-- The bytes that pairs spell, given the number of the line of the first byte, or the fault of the line of the first
-- wrong byte or lone digit.
abbrev pub pairs_from : ℕ → List ℕ → Result (List ℕ) Fault
pairs_from line [] = Ok []
pairs_from line (a ∷ []) = if is_gap a then Ok [] else Err (hex_fault line)
pairs_from line (a ∷ b ∷ rest) = if is_gap a then pairs_from (line_after line a) (b ∷ rest) else (do
  byte ← pair_of line (hex_digit_of a) (hex_digit_of b)
  more ← pairs_from line rest
  Ok (byte ∷ more))

-- The bytes that an input spells, or its first fault; lines are numbered from 1.
abbrev pub pairs_of : List ℕ → Result (List ℕ) Fault
pairs_of input = pairs_from 1 input
