-- The effect and the output of one script line.
use Rattle.std.specs.Prelude.{◌≡◌, ℕ, ◌++◌, List, OnErr, OnOk, Result}
use Rattle.dma_engine.specs.{View.View}
use Rattle.dma_io.specs.Command.{text_of}
use Rattle.dma_commands.specs.Run.{Answered}

-- The new view is the answer's view, and the answer's lines are appended to the output.
pub record AnswersLine (answered : Answered) (new : View) (out out' : List ℕ) : Type 0 where
  pub acts : new ≡ answered.1
  pub prints : out' ≡ out ++ text_of answered.0

-- How a script line runs: it is answered, or it is out of memory and nothing is appended to the output.
pub record RunsLine {A E : Type 0} (answered : Answered) (new : View) (result : Result A E) (out out' : List ℕ) : Type 0 where
  pub ok : OnOk result (AnswersLine answered new out out')
  pub err : OnErr result (out' ≡ out)
