-- What a race printed, and where its line of `go` begins.
use Rattle.std.specs.Prelude.{◌≡◌, ◌≤◌, ◌++◌, ℕ, List, Ok, drop, length}
use Rattle.std.specs.Str.Lines.{lines}
use Rattle.dma_engine.specs.{Interleaved.JobTurn, View.View}
use Rattle.dma_io.specs.Command.{printed_text}
use Rattle.dma_script.specs.declared.race.RaceScript.{RaceScript}
use Rattle.dma_commands.specs.{Left.lines_left, Raced.from_go, Run.lines_answered}
use Rattle.dma_seeds.specs.{Expect.lines_verdict, Race.raced, Seeds.text_from_go, Turns.turns_of_seed, declared.expect.Verdict.Verdict, inner.Measured.Prints}

-- what the lines of a race print that is executed from this view
abbrev pub groups_from : View → RaceScript → List JobTurn → List (List (List ℕ))
groups_from v script turns =
    lines_answered v script.before.statements ++ from_go (lines_left v script.before.statements) turns script.after

-- A race was executed from this view, with its turns in this order: what was appended, and the lengths. The text in front
-- of the line of `go` ends at `early`.
pub record RacedFrom (v : View) (script : RaceScript) (turns : List JobTurn) (early : ℕ) (text text' lengths lengths' : List ℕ) : Type 0 where
  pub all : Prints (groups_from v script turns) text text' lengths lengths'
  pub within : early ≤ length text'
  pub behind : drop early text' ≡ printed_text (from_go (lines_left v script.before.statements) turns script.after)

-- What a race printed, how many of these bytes are in front of the line of `go`, and the verdict on its script.
pub record IsRaceOutput (input : List ℕ) (script : RaceScript) (seed : ℕ) (text : List ℕ) (early : ℕ) (verdict : Verdict) : Type 0 where
  pub text_is : text ≡ printed_text (raced script (turns_of_seed script.jobs seed)).groups
  pub within : early ≤ length text
  pub from_go : drop early text ≡ text_from_go (Ok script) seed
  pub verdict_is : verdict ≡ lines_verdict seed (lines input) (raced script (turns_of_seed script.jobs seed)).groups
