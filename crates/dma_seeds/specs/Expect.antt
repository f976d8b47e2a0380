-- The lines `expect TEXT` of a race script (profile). Each compares its text with a line that was printed.
use Rattle.std.specs.Prelude.{ℕ, ◌+◌, Bool, ◌==◌, ◌||◌, not, true, false, if◌then◌else◌, List, [], ◌∷◌, ◌++◌, flat_map, map, slice_index, Option, Some, None}
use Rattle.std.specs.Prelude.{Result, Ok, Err, codes, decimal}
use Rattle.std.specs.{List.list_any, Option.is_some, Str.bytes_eq, Str.Lines.lines}
use Rattle.dma_io.specs.Command.{text_of}
use Rattle.dma_text.specs.Results.{◌>>=◌}
use Rattle.dma_script.specs.{Race.race_script_of, Words.words_of, declared.fault.Fault.Fault, declared.race.RaceScript.RaceScript}
use Rattle.dma_seeds.specs.declared.expect.Verdict.TheVariants.{Holds, Misses, Refused}
use Rattle.dma_seeds.specs.{Race.raced, Turns.turns_of_seed, declared.expect.Missed.Missed, declared.expect.Verdict.Verdict}

-- words with a space between two
abbrev pub spaced : List (List ℕ) → List ℕ
spaced [] = []
spaced (word ∷ words) = word ++ flat_map (λ next. 32 ∷ next) words

-- the text of an expect line, given the words of a line: those after `expect`, of which there is at least one
abbrev pub expected_in : List (List ℕ) → Option (List ℕ)
expected_in (word ∷ first ∷ more) = if bytes_eq word (codes "expect") then Some (spaced (first ∷ more)) else None
expected_in _ = None

-- ---- a script without its expect lines

-- whether a script has an expect line
abbrev pub has_expects : List ℕ → Bool
has_expects input = list_any (λ line. is_some (expected_in (words_of line))) (lines input)

-- an expect line is emptied
abbrev pub emptied : List ℕ → List ℕ
emptied line = if is_some (expected_in (words_of line)) then [] else line

-- A script whose expect lines are empty, so that the other lines keep their numbers.
abbrev pub without_expects : List ℕ → List ℕ
without_expects input = if has_expects input then text_of (map emptied (lines input)) else input

-- ---- the comparison

-- What of a race's output is left to compare: the lines of the last answer, less those that an expect line was compared
-- with, and the texts of the answers after it.
pub record Unread : Type 0 where
  pub left : List (List ℕ)
  pub answers : List (List ℕ)

-- the next answer, given those that are left
abbrev pub next_answer : List (List ℕ) → Unread
next_answer [] = record { left = []; answers = [] }
next_answer (text ∷ rest) = record { left = lines text; answers = rest }

-- whether a line with these words has an answer: it is neither skipped nor a job
abbrev pub is_answered : List (List ℕ) → Bool
is_answered [] = false
is_answered (word ∷ words) = not (slice_index word 0 == 35 || bytes_eq word (codes "job"))

-- compares the first line that is left with the text of line n; without such a line the text is missed
abbrev pub compared : ℕ → ℕ → List ℕ → List (List ℕ) → List (List ℕ) → Result Unread Missed
compared seed n wanted [] answers = Err (record { seed = seed; line = n; got = None; wanted = wanted })
compared seed n wanted (line ∷ left) answers =
    if bytes_eq line wanted then Ok (record { left = left; answers = answers })
    else Err (record { seed = seed; line = n; got = Some line; wanted = wanted })

-- what is left after line n, given its text if it is an expect line, and whether it has an answer if it is none
abbrev pub after_words : ℕ → ℕ → Unread → Option (List ℕ) → Bool → Result Unread Missed
after_words seed n unread (Some wanted) answered = compared seed n wanted unread.left unread.answers
after_words seed n unread None answered = Ok (if answered then next_answer unread.answers else unread)

-- what is left after line n of a script
abbrev pub after_line : ℕ → ℕ → Unread → List ℕ → Result Unread Missed
after_line seed n unread line = after_words seed n unread (expected_in (words_of line)) (is_answered (words_of line))

-- what is left after the lines that follow line n, or the first expect line among them that fails
abbrev pub after_lines : ℕ → ℕ → Unread → List (List ℕ) → Result Unread Missed
after_lines seed n unread [] = Ok unread
after_lines seed n unread (line ∷ rest) = do
  next ← after_line seed (n + 1) unread line
  after_lines seed (n + 1) next rest

-- ---- the verdict

abbrev pub verdict_on : Result Unread Missed → Verdict
verdict_on (Ok unread) = Holds
verdict_on (Err missed) = Misses missed

-- the verdict on these lines of a script, given the answers to the script without its expect lines
abbrev pub lines_verdict : ℕ → List (List ℕ) → List (List (List ℕ)) → Verdict
lines_verdict seed script groups = verdict_on (after_lines seed 0 (record { left = []; answers = map text_of groups }) script)

abbrev pub verdict_of : Result RaceScript Fault → List ℕ → ℕ → Verdict
verdict_of (Ok script) input seed = lines_verdict seed (lines input) (raced script (turns_of_seed script.jobs seed)).groups
verdict_of (Err fault) input seed = Refused

-- The verdict on a script for a seed: it has a fault, or all its expect lines hold, or this is the first that fails.
abbrev pub verdict : List ℕ → ℕ → Verdict
verdict input seed = verdict_of (race_script_of (without_expects input)) input seed

-- ---- what is printed

abbrev pub got_text : Option (List ℕ) → List ℕ
got_text (Some line) = codes "'" ++ line ++ codes "'"
got_text None = codes "nothing"

-- `LINE: seed SEED: got 'LINE', wanted 'TEXT'`, or with `got nothing` if no line is left
abbrev pub missed_line : Missed → List ℕ
missed_line missed =
    (decimal missed.line ++ codes ": seed " ++ decimal missed.seed) ++ codes ": got " ++ got_text missed.got
    ++ (codes ", wanted '" ++ missed.wanted ++ codes "'")

-- what a verdict prints: the first expect line that fails
abbrev pub verdict_text : Verdict → List ℕ
verdict_text (Misses missed) = text_of (missed_line missed ∷ [])
verdict_text _ = []

-- whether a script has no fault, and all its expect lines hold
abbrev pub is_good : Verdict → Bool
is_good Holds = true
is_good _ = false
