-- Bytes that were read before, and then those of the rest of a text.
use Rattle.std.specs.Prelude.{ℕ, ◌^◌, Bool, ◌==◌, ◌||◌, ◌&&◌, not, nat_lt, if◌then◌else◌, List, ◌++◌, length, Option, Some, None, Result, Ok}
use Rattle.std.specs.{List.list_all, Char.digit_value, Str.Parse.digits_value_after, Option.option_map, Option.option_and_then}
use Rattle.dma_mem.specs.declared.segment.Segment.{Segment}
use Rattle.dma_text.specs.Results.{◌>>=◌}
use Rattle.dma_script.specs.Words.{behind, front, number_before}
use Rattle.dma_script.specs.{Arguments.bytes_at, Pairs.pairs_from, declared.fault.Cause.Cause, declared.fault.Fault.Fault}

-- the bytes before, and then those of hexadecimal words, joined; `Hex` if one of them is not
abbrev pub bytes_after : List ℕ → List (List ℕ) → Result (List ℕ) Cause
bytes_after before words = do
  more ← bytes_at words
  Ok (before ++ more)

-- the bytes before, and then those of the pairs from a line on
abbrev pub pairs_after : List ℕ → ℕ → List ℕ → Result (List ℕ) Fault
pairs_after before line rest = do
  more ← pairs_from line rest
  Ok (before ++ more)

-- the number that digits of a base spell, given whether there are some before them, and the number that those spell
abbrev pub number_after : Bool → ℕ → ℕ → List ℕ → Option ℕ
number_after some value base digits =
    if (some || not (length digits == 0)) && list_all (λ c. nat_lt (digit_value c) base) digits
    && nat_lt (digits_value_after base value digits) (2 ^ 32)
    then Some (digits_value_after base value digits) else None

-- The digits before the first `stop` continue a number, as in `number_after`. This is the number that they spell
-- together, and what follows the `stop`.
abbrev pub digits_before : ℕ → ℕ → Bool → ℕ → List ℕ → Option (ℕ × Option (List ℕ))
digits_before base stop some value bytes = option_map (λ n. (n, behind stop bytes)) (number_after some value base (front stop bytes))

-- the segment by the numbers before the first plus and the first comma after it, and what follows the comma
abbrev pub segment_before : List ℕ → Option (Segment × Option (List ℕ))
segment_before word =
    option_and_then (λ read.
    option_and_then (λ rest. option_map (λ end. (record { addr = read.0; len = end.0 }, end.1)) (number_before 44 rest)) read.1)
    (number_before 43 word)
