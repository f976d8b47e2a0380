-- The lines of a race script (profile): those before `go`, with jobs among them, and those after it. The test for the
-- side of `go` comes before the test for the first line.
use Rattle.std.specs.Prelude.{ℕ, ◌≤◌, ◌&&◌, Bool, true, false, nat_le, nat_lt, if◌then◌else◌, List, [], ◌∷◌, ◌++◌, length, Option, Some, None, Result, Ok, Err}
use Rattle.std.specs.Prelude.{codes}
use Rattle.std.specs.{List.All, Option.ok_or, Option.option_map, Str.bytes_eq}
use Rattle.dma_mem.specs.Limits.{last_channel}
use Rattle.dma_text.specs.Results.{◌>>=◌}
use Rattle.dma_script.specs.{Lines.after_script, Arguments.Shape, Arguments.makes, Arguments.number, Arguments.meaning, Statements.IsWithin}
use Rattle.dma_script.specs.{Statements.keyword_of, Statements.later_line, Statements.next_line, declared.fault.Cause.Cause, declared.fault.Fault.Fault}
use Rattle.dma_script.specs.{declared.statements.Keyword.Keyword, declared.statements.Statement.Statement, declared.statements.RunScript.RunScript}
use Rattle.dma_script.specs.{declared.race.JobLine.JobLine, declared.race.RaceKeyword.RaceKeyword, declared.race.RaceKeyword.TheVariants.Line}
use Rattle.dma_script.specs.{declared.race.RaceKeyword.TheVariants.Job, declared.race.RaceKeyword.TheVariants.Go, declared.race.RaceScript.RaceScript}
use Rattle.dma_mem.specs.declared.call.Call.TheVariants as calls
use Rattle.dma_script.specs.declared.fault.Cause.TheVariants as causes
use Rattle.dma_script.specs.declared.statements.Keyword.TheVariants.{Memory, Write, Read, Submit, Issue, Terminate, Status, Result as Outcome}
use Rattle.dma_script.specs.declared.statements.Statement.TheVariants as statements

-- the command that a word spells: `job`, `go`, or a command of a run script
abbrev pub race_keyword_of : List ℕ → Option RaceKeyword
race_keyword_of word =
    if bytes_eq word (codes "job") then Some Job else (
    if bytes_eq word (codes "go") then Some Go else option_map (λ keyword. Line keyword) (keyword_of word))

-- whether a line of a run script is allowed before `go`
abbrev pub is_early : Keyword → Bool
is_early Memory = true
is_early Write = true
is_early Read = true
is_early Submit = true
is_early Issue = true
is_early Terminate = true
is_early Status = true
is_early Outcome = true
is_early _ = false

-- succeeds if a test holds, else fails with a cause
abbrev pub where_holds : Bool → Cause → Result (Unit {0}) Cause
where_holds holds cause = if holds then Ok tt else Err cause

-- the most jobs of a race script (profile)
abbrev pub most_jobs : ℕ
most_jobs = 16

-- `FIRST LAST TURNS`
abbrev pub job : Shape JobLine
job = number λ first. number λ last. number λ turns. makes (record { first = first; last = last; turns = turns })

-- the job of the words after `job`; `Range` if FIRST is above LAST, or LAST above 7
abbrev pub job_line : List (List ℕ) → Result JobLine Cause
job_line words = do
  job ← meaning job words
  in_range ← where_holds (nat_le job.first job.last && nat_le job.last last_channel) causes.Range
  Ok job

-- The part of a race script that was read so far: the memory line with the lines before `go`, the jobs, and, once `go`
-- was read, the lines after it.
pub record RaceRead : Type 0 where
  pub before : Option RunScript
  pub jobs : List JobLine
  pub after : Option (List Statement)

-- nothing was read yet
abbrev pub nothing_read : RaceRead
nothing_read = record { before = None; jobs = []; after = None }

-- succeeds if the memory line was read, else fails with `First`
abbrev pub behind_memory : Option RunScript → Result (Unit {0}) Cause
behind_memory None = Err causes.First
behind_memory (Some script) = Ok tt

-- before `go`: a line of a run script, or `Command` if it is not allowed there
abbrev pub early_line : RaceRead → Keyword → List (List ℕ) → Result RaceRead Cause
early_line read keyword words = if is_early keyword then (do
  before ← next_line read.before keyword words
  Ok (record read { before = before })) else Err causes.Command

-- before `go` and after the memory line: a job, or `Range` if there are sixteen already
abbrev pub job_taken : RaceRead → List (List ℕ) → Result RaceRead Cause
job_taken read words = do
  behind ← behind_memory read.before
  job ← job_line words
  few ← where_holds (nat_lt (length read.jobs) most_jobs) causes.Range
  Ok (record read { jobs = read.jobs ++ job ∷ [] })

-- succeeds without words, else fails with `Words`
abbrev pub no_words : List (List ℕ) → Result (Unit {0}) Cause
no_words [] = Ok tt
no_words _ = Err causes.Words

-- `go`, after the memory line and without further words: the list of the lines after it is empty
abbrev pub go_taken : RaceRead → List (List ℕ) → Result RaceRead Cause
go_taken read words = do
  behind ← behind_memory read.before
  bare ← no_words words
  Ok (record read { after = Some [] })

-- a line before `go`, or `go`
abbrev pub line_before_go : RaceRead → RaceKeyword → List (List ℕ) → Result RaceRead Cause
line_before_go read (Line keyword) words = early_line read keyword words
line_before_go read Job words = job_taken read words
line_before_go read Go words = go_taken read words

-- a line after `go`: any line of a run script after its first; `Command` for `job` and `go`
abbrev pub line_after_go : RaceKeyword → List (List ℕ) → Result Statement Cause
line_after_go (Line keyword) words = later_line keyword words
line_after_go Job words = Err causes.Command
line_after_go Go words = Err causes.Command

-- the next line, given the lines after `go` so far: without such a list a line before `go`, or `go`; else a line after
-- `go`
abbrev pub line_beside_go : Option (List Statement) → RaceRead → RaceKeyword → List (List ℕ) → Result RaceRead Cause
line_beside_go None read keyword words = line_before_go read keyword words
line_beside_go (Some after) read keyword words = do
  statement ← line_after_go keyword words
  Ok (record read { after = Some (after ++ statement ∷ []) })

-- The next line of a race script, by its keyword and the words after that.
abbrev pub next_race_line : RaceRead → RaceKeyword → List (List ℕ) → Result RaceRead Cause
next_race_line read keyword words = line_beside_go read.after read keyword words

-- the next line of a race script, by its words
abbrev pub race_step : RaceRead → List (List ℕ) → Result RaceRead Cause
race_step read [] = Err causes.Command
race_step read (word ∷ words) = do
  keyword ← ok_or (race_keyword_of word) causes.Command
  next_race_line read keyword words

-- A whole race script, or its first fault. If no line has a fault, a script without a line fails with `First` in line
-- 0, and one without `go` with `Go` in line 0.
abbrev pub race_script_of : List ℕ → Result RaceScript Fault
race_script_of input = do
  read ← after_script race_step nothing_read input
  before ← ok_or read.before (record { line = 0; cause = causes.First })
  after ← ok_or read.after (record { line = 0; cause = causes.Go })
  Ok (record { before = before; jobs = read.jobs; after = after })

-- A job is in range: its first channel is at most its last, and that at most 7.
abbrev pub IsJob : JobLine → Type 0
IsJob job = (job.first ≤ job.last) × (job.last ≤ last_channel)

-- a statement that is allowed before `go`
abbrev pub IsEarly : Statement → Type 0
IsEarly (statements.Call (calls.Write addr bytes)) = Unit {0}
IsEarly (statements.Call (calls.Read addr len)) = Unit {0}
IsEarly (statements.Call (calls.Issue ch)) = Unit {0}
IsEarly (statements.Call (calls.Terminate ch)) = Unit {0}
IsEarly (statements.Call (calls.Status ch cookie)) = Unit {0}
IsEarly (statements.Call (calls.Result ch cookie)) = Unit {0}
IsEarly (statements.Submit ch transfer) = Unit {0}
IsEarly _ = ⊥

-- What holds of a race script that was read: its memory line is in range, each statement before `go` is allowed there,
-- each job is in range, and there are at most 16 jobs.
pub record IsRace (script : RaceScript) : Type 0 where
  pub memory : IsWithin script.before
  pub early : All IsEarly script.before.statements
  pub jobs : All IsJob script.jobs
  pub few : length script.jobs ≤ most_jobs
