-- How a script is read, line by line, up to its first fault (profile). The meaning of a line is a step: a function of
-- what was read so far and of the words of the line, which gives what has been read after the line, or the cause of a
-- fault. Each kind of script has its own step.
use Rattle.std.specs.Prelude.{◌≡◌, ℕ, ◌+◌, Bool, true, ◌==◌, not, if◌then◌else◌, List, [], ◌∷◌, slice_index, Result, Ok, Err}
use Rattle.std.specs.{List.list_all, List.position_or_len, Str.Lines.lines}
use Rattle.dma_text.specs.Results.{◌>>=◌}
use Rattle.dma_script.specs.{Words.words_of, Words.is_plain, declared.fault.Cause.Cause, declared.fault.Cause.TheVariants.Byte}
use Rattle.dma_script.specs.{declared.fault.ReadError.ReadError, declared.fault.ReadError.TheVariants.NoMemory, declared.fault.ReadError.TheVariants.Fault}
use Rattle.dma_script.specs.declared.fault.Fault.{Fault as LineFault}

-- whether a line is skipped: it has no words, or its first word begins with #
abbrev pub is_skipped : List (List ℕ) → Bool
is_skipped [] = true
is_skipped (word ∷ more) = slice_index word 0 == 35

-- What has been read after a line, or the cause of its fault. A skipped line changes nothing. In any other line, a byte
-- that is not plain is the first cause.
abbrev pub after_line : {S : Type 0} → (S → List (List ℕ) → Result S Cause) → S → List ℕ → Result S Cause
after_line step read line =
    if is_skipped (words_of line) then Ok read else (
    if list_all is_plain line then step read (words_of line) else Err Byte)

-- the result of line n, with the line's number added to a cause
abbrev pub at_line : {S : Type 0} → ℕ → Result S Cause → Result S LineFault
at_line n (Ok read) = Ok read
at_line n (Err cause) = Err (record { line = n; cause = cause })

-- What has been read after the lines that follow line n, or their first fault.
abbrev pub after_lines : {S : Type 0} → (S → List (List ℕ) → Result S Cause) → ℕ → S → List (List ℕ) → Result S LineFault
after_lines step n read [] = Ok read
after_lines step n read (line ∷ rest) = do
  next ← at_line (n + 1) (after_line step read line)
  after_lines step (n + 1) next rest

-- What has been read after a whole script, or its first fault. Lines are numbered from 1. A line ends with a line feed,
-- and a carriage return right before that is not part of the line. The last line may have no line feed; a carriage
-- return at its end is then part of it.
abbrev pub after_script : {S : Type 0} → (S → List (List ℕ) → Result S Cause) → S → List ℕ → Result S LineFault
after_script step read input = after_lines step 0 read (lines input)

-- The number of the first line that is not skipped, from 1, or one more than the number of lines if all are skipped.
abbrev pub first_number : List ℕ → ℕ
first_number input = position_or_len (λ line. not (is_skipped (words_of line))) (lines input) + 1

-- The result that a function returned, with `view` applied to a value, equals `gives`, unless it is `NoMemory`.
abbrev pub Gives : {X Y F : Type 0} → (X → Y) → Result X (ReadError F) → Result Y F → Type 0
Gives view (Ok x) gives = gives ≡ Ok (view x)
Gives view (Err NoMemory) gives = Unit {0}
Gives view (Err (Fault fault)) gives = gives ≡ Err fault
