-- The cause that is reported for a faulty line (profile): the first that applies, where each cause is tested over all
-- words of the line, from the left, before the next one. It doesn't depend on the order in which a line is read. The
-- words after each command, and their causes, are those of `statement`, `memory`, `transfer` and `job`. That the
-- readers of run, race and plan scripts report the same is the law `FirstCausesAreReported` for every line, and
-- `FirstFaultsAreReported` for every script.
use Rattle.std.specs.Prelude.{◌≡◌, ℕ, ◌+◌, Bool, true, false, not, ◌&&◌, ◌||◌, nat_le, nat_lt, if◌then◌else◌, List, [], ◌∷◌, length, Option, Some, None, Result}
use Rattle.std.specs.Prelude.{Ok, Err, is_some}
use Rattle.std.specs.{List.list_all, List.list_any, Option.option_map, Option.option_or, Str.Lines.lines}
use Rattle.dma_mem.specs.Limits.{last_channel}
use Rattle.dma_script.specs.Arguments.{where_not, first_reported, Operand, number_or_zero, makes, operands, words_cause}
use Rattle.dma_script.specs.Statements.{keyword_of, memory, statement, run_step, run_script_of}
use Rattle.dma_script.specs.Race.{RaceRead, most_jobs, race_keyword_of, is_early, job, race_step, race_script_of}
use Rattle.dma_script.specs.{Words.words_of, Words.is_plain, Lines.is_skipped, Lines.after_line, Plan.transfer, Plan.plan_step, Plan.plan_of}
use Rattle.dma_script.specs.{declared.fault.Cause.Cause, declared.fault.Fault.Fault, declared.transfer_line.TransferLine.TransferLine}
use Rattle.dma_script.specs.{declared.statements.Keyword.Keyword, declared.statements.RunScript.RunScript, declared.race.RaceKeyword.RaceKeyword}
use Rattle.dma_script.specs.declared.fault.Cause.TheVariants as causes
use Rattle.dma_script.specs.declared.statements.Keyword.TheVariants as keywords
use Rattle.dma_script.specs.declared.race.RaceKeyword.TheVariants as race_keywords

-- ---- one line

-- What a kind of script requires of a line. `command`: its first word is a command that is allowed there, or the script
-- has no commands. `first`: it is the memory line exactly if that is required there. `operands`: the causes of its
-- words except the command and the fixed ones; `None` if a word is missing, one is too many, or a fixed one is wrong.
-- `in_range`: the other conditions of the cause `Range` hold.
pub record Asked : Type 0 where
  pub command : Bool
  pub first : Bool
  pub operands : Option (List Operand)
  pub in_range : Bool

-- the tests of a line, in their order
abbrev pub tests : List ℕ → Asked → List (Option Cause)
tests line asked =
    where_not (list_all is_plain line) causes.Byte ∷ where_not asked.command causes.Command ∷ where_not asked.first causes.First
    ∷ words_cause asked.operands ∷ where_not asked.in_range causes.Range ∷ []

-- The cause that is reported for a line, given what is required of its words; none for a line that is skipped.
abbrev pub line_reported : (List (List ℕ) → Asked) → List ℕ → Option Cause
line_reported asks line = if is_skipped (words_of line) then None else first_reported (tests line (asks (words_of line)))

-- ---- what each kind of script requires

-- the requirements of a line whose first word is not a command: `command` fails
abbrev pub no_command : Asked
no_command = record { command = false; first = true; operands = None; in_range = true }

-- whether a keyword begins a memory line
abbrev pub is_memory : Keyword → Bool
is_memory keywords.Memory = true
is_memory _ = false

-- the words after each command of a run script
abbrev pub operands_of : Keyword → List (List ℕ) → Option (List Operand)
operands_of keyword words = elim (statement keyword) [ Err cause ↦ operands memory words | Ok shape ↦ operands shape words ]

-- what a run script requires of a line with this command, after a memory line or not: the first line is the memory
-- line, and no other is
abbrev pub run_asked : Bool → Keyword → List (List ℕ) → Asked
run_asked behind keyword words =
    record {
      command = true;
      first = if behind then not (is_memory keyword) else is_memory keyword;
      operands = operands_of keyword words;
      in_range = true;
    }

-- what a run script requires of a line, after its memory line or not
abbrev pub run_asks : Bool → List (List ℕ) → Asked
run_asks behind [] = no_command
run_asks behind (word ∷ words) = elim (keyword_of word) [ None ↦ no_command | Some keyword ↦ run_asked behind keyword words ]

-- what a plan script requires of a line, after its first line or not: it has only one line, which has no command
abbrev pub plan_asks : Bool → List (List ℕ) → Asked
plan_asks behind words =
    record { command = true; first = true; operands = if behind then None else operands (transfer makes) words; in_range = true }

-- whether FIRST is at most LAST, and LAST at most 7; true if there are not three words
abbrev pub job_in_range : List (List ℕ) → Bool
job_in_range (first ∷ last ∷ turns ∷ []) = nat_le (number_or_zero first) (number_or_zero last) && nat_le (number_or_zero last) last_channel
job_in_range _ = true

-- the position in a race script: whether it is after the memory line, whether it is after `go`, and the number of jobs
-- before
pub record RaceSide : Type 0 where
  pub behind : Bool
  pub after_go : Bool
  pub jobs : ℕ

-- what a race script requires of a line with this command. Before `go`, the commands are those of lines allowed there,
-- `job` and `go`; after it, those of a run script. The first line is the memory line, and no other is.
abbrev pub race_asked : RaceSide → RaceKeyword → List (List ℕ) → Asked
race_asked side (race_keywords.Line keyword) words =
    record (run_asked (side.behind || side.after_go) keyword words) { command = side.after_go || is_early keyword }
race_asked side race_keywords.Job words =
    record {
      command = not side.after_go;
      first = side.behind;
      operands = operands job words;
      in_range = job_in_range words && nat_lt side.jobs most_jobs;
    }
race_asked side race_keywords.Go words =
    record { command = not side.after_go; first = side.behind; operands = operands {A = Unit {0}} (makes tt) words; in_range = true }

-- what a race script requires of a line
abbrev pub race_asks : RaceSide → List (List ℕ) → Asked
race_asks side [] = no_command
race_asks side (word ∷ words) =
    elim (race_keyword_of word) [ None ↦ no_command | Some keyword ↦ race_asked side keyword words ]

-- the position in a race script after what was read
abbrev pub side_of : RaceRead → RaceSide
side_of read =
    record { behind = is_some read.before || is_some read.after; after_go = is_some read.after; jobs = length read.jobs }

-- ---- the law

-- the cause of a result, or none if it is `Ok`
abbrev pub cause_reported : {A : Type 0} → Result A Cause → Option Cause
cause_reported (Ok read) = None
cause_reported (Err cause) = Some cause

-- Each reader, whatever it has read before, reports for each line the first cause of the table that applies, and reads
-- the line exactly if none applies.
pub record FirstCausesAreReported : Type 0 where
  pub run : (read : Option RunScript) (line : List ℕ)
      → cause_reported (after_line run_step read line) ≡ line_reported (run_asks (is_some read)) line
  pub race : (read : RaceRead) (line : List ℕ)
      → cause_reported (after_line race_step read line) ≡ line_reported (race_asks (side_of read)) line
  pub plan : (read : Option TransferLine) (line : List ℕ)
      → cause_reported (after_line plan_step read line) ≡ line_reported (plan_asks (is_some read)) line

-- ---- a whole script

-- whether a line is not skipped
abbrev pub is_taken : List ℕ → Bool
is_taken line = not (is_skipped (words_of line))

-- The first fault of the lines that follow line n, given the cause of a line at a position in the script, and the
-- position after a line.
abbrev pub first_fault : {S : Type 0} → (S → List ℕ → Option Cause) → (S → List ℕ → S) → S → ℕ → List (List ℕ) → Option Fault
first_fault test after side n [] = None
first_fault test after side n (line ∷ rest) =
    option_or (option_map (λ cause. record { line = n + 1; cause = cause }) (test side line))
    (first_fault test after (after side line) (n + 1) rest)

-- whether a script is after its first line that is not skipped, once one more line was read
abbrev pub behind_after : Bool → List ℕ → Bool
behind_after behind line = behind || is_taken line

-- the fault of a script whose lines are all skipped: `First` in line 0
abbrev pub no_line_fault : List ℕ → Option Fault
no_line_fault input = if list_any is_taken (lines input) then None else Some (record { line = 0; cause = causes.First })

-- the fault of a result, or none if it is `Ok`
abbrev pub fault_reported : {A : Type 0} → Result A Fault → Option Fault
fault_reported (Ok script) = None
fault_reported (Err fault) = Some fault

-- the command that the first of a line's words spells
abbrev pub race_command_of : List (List ℕ) → Option RaceKeyword
race_command_of [] = None
race_command_of (word ∷ words) = race_keyword_of word

-- whether a command is `go`
abbrev pub is_go : Option RaceKeyword → Bool
is_go (Some race_keywords.Go) = true
is_go _ = false

-- whether a command is `job`
abbrev pub is_job : Option RaceKeyword → Bool
is_job (Some race_keywords.Job) = true
is_job _ = false

-- the position in a race script after a line that is not skipped, by its command
abbrev pub after_command : RaceSide → Option RaceKeyword → RaceSide
after_command side command =
    record {
      behind = true;
      after_go = side.after_go || is_go command;
      jobs = if is_job command then side.jobs + 1 else side.jobs;
    }

-- the position in a race script after a line
abbrev pub race_after : RaceSide → List ℕ → RaceSide
race_after side line = if is_taken line then after_command side (race_command_of (words_of line)) else side

-- the position in a race script before its first line
abbrev pub at_start : RaceSide
at_start = record { behind = false; after_go = false; jobs = 0 }

-- the fault of a race script without `go`: `Go` in line 0
abbrev pub no_go_fault : List ℕ → Option Fault
no_go_fault input =
    if list_any (λ line. is_taken line && is_go (race_command_of (words_of line))) (lines input) then None
    else Some (record { line = 0; cause = causes.Go })

-- Each reader reports for a whole script the fault of the first faulty line. If no line has a fault, it reports that
-- there is no line, or else, for a race script, that there is no `go`.
pub record FirstFaultsAreReported : Type 0 where
  pub run : (input : List ℕ) → fault_reported (run_script_of input)
      ≡ option_or (first_fault (λ behind line. line_reported (run_asks behind) line) behind_after false 0 (lines input))
      (no_line_fault input)
  pub race : (input : List ℕ) → fault_reported (race_script_of input)
      ≡ option_or (first_fault (λ side line. line_reported (race_asks side) line) race_after at_start 0 (lines input))
      (option_or (no_line_fault input) (no_go_fault input))
  pub plan : (input : List ℕ) → fault_reported (plan_of input)
      ≡ option_or (first_fault (λ behind line. line_reported (plan_asks behind) line) behind_after false 0 (lines input))
      (no_line_fault input)
