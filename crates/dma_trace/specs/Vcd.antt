-- Values of signals in a Value Change Dump (IEEE 1364, value change dump files).
use Rattle.std.specs.Prelude.{ℕ, zero, suc, ◌+◌, ◌/◌, ◌%◌, ◌^◌, ◌==◌, ◌&&◌, ◌++◌, Bool, not, List, [], ◌∷◌, if◌then◌else◌, codes}
use Rattle.dma_trace.specs.Words.{line_feed}

-- the lowest `width` bits of a number, the highest first
unfoldable pub bits_text : ℕ → ℕ → List ℕ
bits_text zero n = []
bits_text (suc width) n = (48 + n / 2 ^ width % 2) ∷ bits_text width n

-- a value of a signal of this width: `1`, or `b0101 ` with more than one bit
unfoldable pub value_text : ℕ → ℕ → List ℕ
value_text width n = if width == 1 then bits_text width n else codes "b" ++ bits_text width n ++ codes " "

-- the line of a signal with this code, if it has changed or all signals have a line
unfoldable pub signal_line : Bool → List ℕ → ℕ → ℕ → ℕ → List ℕ
signal_line all code width old new =
    if not all && (old == new) then [] else value_text width new ++ code ++ line_feed
