-- A race with its turns in a given order, as a script of `run` (profile).
use Rattle.std.specs.Prelude.{◌≡◌, ◌==◌, ℕ, if◌then◌else◌, List, [], ◌∷◌, ◌++◌, flat_map, map, slice_index, Result, Ok, Err, codes, decimal}
use Rattle.std.specs.{Str.bytes_eq, Str.Lines.lines}
use Rattle.dma_engine.specs.Interleaved.{JobTurn, turns_taken}
use Rattle.dma_io.specs.Command.{text_of}
use Rattle.dma_script.specs.{Race.race_script_of, Statements.run_script_of, Words.words_of, declared.fault.Fault.Fault, declared.race.RaceScript.RaceScript}
use Rattle.dma_script.specs.{declared.statements.RunScript.RunScript}
use Rattle.dma_commands.specs.{Left.view_after, Raced.step_groups, Raced.step_statements, Run.lines_answered, Run.printed_of}
use Rattle.dma_seeds.specs.{Turns.turns_of_seed, Race.early_lines}

-- `step CH`, one step of the channel of a turn
abbrev pub turn_line : JobTurn → List ℕ
turn_line turn = codes "step " ++ decimal turn.channel

-- the lines of turns
abbrev pub turns_text : List JobTurn → List ℕ
turns_text turns = text_of (map turn_line turns)

-- What replaces a line of a race script, given its words: nothing for a skipped line and for a job, the turns for
-- `go`, and the line itself for any other.
abbrev pub text_for : List ℕ → List ℕ → List (List ℕ) → List ℕ
text_for turns line [] = []
text_for turns line (word ∷ words) =
    if slice_index word 0 == 35 then [] else (
    if bytes_eq word (codes "job") then [] else (
    if bytes_eq word (codes "go") then turns else line ++ 10 ∷ []))

-- a race script with the text of turns in place of `go`, and without its jobs
abbrev pub text_with : List ℕ → List ℕ → List ℕ
text_with turns input = flat_map (λ line. text_for turns line (words_of line)) (lines input)

-- the text for a parsed script; none for a script with a fault
abbrev pub script_text_of : Result RaceScript Fault → List ℕ → ℕ → List ℕ
script_text_of (Ok script) input seed = text_with (turns_text (turns_of_seed script.jobs seed)) input
script_text_of (Err fault) input seed = []

-- The script of `run` for an input and a seed.
abbrev pub script_text : List ℕ → ℕ → List ℕ
script_text input seed = script_text_of (race_script_of input) input seed

-- ---- what the script means

-- a race script as one of `run`: the turns are step lines between the lines before `go` and those after it
abbrev pub as_run : RaceScript → List JobTurn → RunScript
as_run script turns =
    record (script.before) { statements = script.before.statements ++ step_statements turns ++ script.after }

-- The text for a race script without a fault is read as that script of `run`.
abbrev pub ScriptsAreRead : Type 0
ScriptsAreRead =
    (input : List ℕ) (script : RaceScript) (seed : ℕ) → race_script_of input ≡ Ok script
    → run_script_of (script_text input seed) ≡ Ok (as_run script (turns_of_seed script.jobs seed))

-- A race prints what `run` prints for that script, with the line of `go` in place of the lines of the turns.
abbrev pub RacesAreRuns : Type 0
RacesAreRuns =
    (script : RaceScript) (turns : List JobTurn) → let taken = turns_taken (view_after script.before) turns in
    printed_of (Ok (as_run script turns)) ≡ record {
      groups = [] ∷ early_lines script ++ step_groups turns taken.0 ++ lines_answered taken.1 script.after;
      status = 0;
    }
