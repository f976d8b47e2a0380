-- What the parts of a race script print.
use Rattle.std.specs.Prelude.{◌≡◌, ℕ, ◌≤◌, List, [], ◌∷◌, ◌++◌, take, length, map}
use Rattle.dma_engine.specs.{Interleaved.Interleaves, Interleaved.JobTurn, Interleaved.turns_taken, View.View}
use Rattle.dma_work.specs.{Shift.channels_of_job, declared.job.Job.Job}
use Rattle.dma_io.specs.Command.{printed_text, text_of}
use Rattle.dma_script.specs.{Interpreted.ActsInTurn, Interpreted.PrintsLines, declared.race.JobLine.JobLine, declared.statements.Statement.Statement}
use Rattle.dma_commands.specs.Raced.{EarlyPrints, go_line}

-- The jobs of job lines: one for each line, with its channels and turns.
abbrev pub AreJobs : List JobLine → List Job → Type 0
AreJobs lines jobs =
    map {B = ℕ × ℕ × ℕ} (λ (job : Job). (job.first, job.last, job.turns)) jobs
    ≡ map (λ (line : JobLine). (line.first, line.last, line.turns)) lines

-- The first `count` of the lines before `go` have appended what they may print, from this view on; the other lines may
-- print something too.
pub record PrintsFirst (start : View) (statements : List Statement) (old new : List ℕ) : Type 0 where
  pub early : List (List (List ℕ))
  pub view : View
  pub each : ActsInTurn EarlyPrints statements start early view
  pub count : ℕ
  pub within : count ≤ length early
  pub text : new ≡ old ++ printed_text (take count early)

-- The totals of `go` are appended, of the turns of these jobs, from the one view to the other.
pub record PrintsTotals (start : View) (jobs : List Job) (view : View) (old new : List ℕ) : Type 0 where
  pub turns : List JobTurn
  pub interleaved : Interleaves (map channels_of_job jobs) turns
  pub leads : view ≡ (turns_taken start turns).1
  pub text : new ≡ old ++ text_of (go_line (turns_taken start turns).0 ∷ [])

-- All lines before `go` have appended what they may print, and then `go` the totals of these jobs, from the one view to
-- the other.
pub record PrintsGo
    (start : View) (statements : List Statement) (jobs : List Job) (view : View) (old new : List ℕ) : Type 0 where
  pub between : View
  pub text : List ℕ
  pub lines : PrintsLines EarlyPrints start statements between old text
  pub totals : PrintsTotals between jobs view text new
