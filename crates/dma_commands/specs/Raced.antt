-- What `dmasim race` may print for a script (profile). The workers take their turns in any order, so the input doesn't
-- determine the output. It is that of a `run` with an interleaving of the jobs' turns as step lines in place of `go`,
-- but with one line for `go`; a `status` before `go` may have no answer, or the reader no place.
use Rattle.std.specs.Prelude.{◌≡◌, ℕ, ◌⊎◌, List, [], ◌∷◌, ◌++◌, map, Result, Ok, Err, codes, decimal}
use Rattle.std.specs.List.{sum_by}
use Rattle.dma_engine.specs.Interleaved.{Interleaves, JobTurn, rotation, turns_taken}
use Rattle.dma_engine.specs.{declared.call.Reply.TheVariants.Turned, declared.fault.EngineFault.EngineFault, declared.turn.Turn.Turn, Answer.reply_of}
use Rattle.dma_engine.specs.{Turn.finishes_in, Turn.steps_in, View.View, View.new_view}
use Rattle.dma_io.specs.Command.{Printed, refusal}
use Rattle.dma_script.specs.{Interpreted.ActsInTurn, Printing.fault_line, Race.race_script_of, declared.fault.Fault.Fault, declared.race.JobLine.JobLine}
use Rattle.dma_script.specs.{declared.race.RaceScript.RaceScript, declared.statements.Statement.Statement}
use Rattle.dma_commands.specs.{Printed.refused_line, Printed.reply_text, Run.line_answer, Run.lines_answered, Run.step_line}
use Rattle.dma_mem.specs.declared.call.Call.TheVariants as calls
use Rattle.dma_script.specs.declared.statements.Statement.TheVariants as statements

-- A `status` line prints `status none`, and nothing changes.
abbrev pub IsUnanswered : View → Statement → List (List ℕ) → View → Type 0
IsUnanswered v (statements.Call (calls.Status ch cookie)) lines w = (lines ≡ codes "status none" ∷ []) × (w ≡ v)
IsUnanswered v statement lines w = ⊥

-- What a line before `go` may print, from this view to that one: what `run` prints for it there. A `status` line asks a
-- reader, which may have no answer.
abbrev pub EarlyPrints : View → Statement → List (List ℕ) → View → Type 0
EarlyPrints v statement lines w = (line_answer v statement ≡ (lines, w)) ⊎ IsUnanswered v statement lines w

-- the channels of a job's turns, in order
abbrev pub channels_of_line : JobLine → List ℕ
channels_of_line job = rotation job.first job.last job.turns

-- `go steps N finished N`: how many steps the results of the turns count, and how many cookies they finish
abbrev pub go_line : List (Result Turn EngineFault) → List ℕ
go_line results =
    codes "go steps " ++ decimal (sum_by steps_in results) ++ codes " finished " ++ decimal (sum_by finishes_in results)

-- What is printed from `go` on, where `go` finds this view and takes these turns: their totals, and what `run` prints
-- for the lines after `go` on the view after them.
abbrev pub from_go : View → List JobTurn → List Statement → List (List (List ℕ))
from_go v turns after =
    let taken = turns_taken v turns in (go_line taken.0 ∷ []) ∷ lines_answered taken.1 after

-- the view with which a script begins
abbrev pub first_view : RaceScript → View
first_view script = new_view script.before.size script.before.channels

-- what a script prints that runs to its end: nothing for its memory line, and what the other lines print, with status 0
abbrev pub raced_whole : List (List (List ℕ)) → View → List JobTurn → List Statement → Printed
raced_whole early v turns after = record { groups = [] ∷ early ++ from_go v turns after; status = 0 }

-- what a script prints that is refused before its first line, with status 1
abbrev pub raced_refused : List ℕ → Printed
raced_refused name = record { groups = [] ∷ (refused_line name ∷ []) ∷ []; status = 1 }

-- What may be printed for a race script: the lines before `go` print what they may, one after another, and `go` takes
-- all turns of all jobs, interleaved in some order. Or the desk has no place for the reader of statuses (no script is
-- known for which this happens).
pub data RacePrints (script : RaceScript) (p : Printed) : Type 0 where
  whole : (early : List (List (List ℕ))) → (v : View)
      → ActsInTurn EarlyPrints script.before.statements (first_view script) early v
      → (turns : List JobTurn) → Interleaves (map channels_of_line script.jobs) turns
      → p ≡ raced_whole early v turns script.after → RacePrints script p
  no_reader : p ≡ raced_refused (codes "NoReader") → RacePrints script p

-- What may be printed for a parsed script; a script with a fault prints its first fault.
abbrev pub race_prints_of : Result RaceScript Fault → Printed → Type 0
race_prints_of (Ok script) p = RacePrints script p
race_prints_of (Err fault) p = p ≡ refusal (fault_line fault)

-- What may be printed for an input.
abbrev pub race_may_print : List ℕ → Printed → Type 0
race_may_print input p = race_prints_of (race_script_of input) p

-- ---- a race as a run

-- the step lines of turns, one each
abbrev pub step_statements : List JobTurn → List Statement
step_statements turns = map (λ (t : JobTurn). statements.Step t.channel 1) turns

-- what `run` prints for them, given the turns' results: `step CH ANSWER x1` for each
abbrev pub step_groups : List JobTurn → List (Result Turn EngineFault) → List (List (List ℕ))
step_groups (t ∷ turns) (result ∷ results) =
    (step_line t.channel (reply_text (reply_of Turned result), 1) ∷ []) ∷ step_groups turns results
step_groups _ _ = []

-- If step lines for the turns are in place of `go`, then `run` prints the turns' results in place of their totals. For
-- the lines after `go` it prints what the race prints.
abbrev pub RacesAreRuns : Type 0
RacesAreRuns =
    (v : View) (turns : List JobTurn) (after : List Statement) → let taken = turns_taken v turns in
    lines_answered v (step_statements turns ++ after) ≡ step_groups turns taken.0 ++ lines_answered taken.1 after
