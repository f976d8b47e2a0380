-- Lines of a script that are executed together, and how far lines are executed.
use Rattle.std.specs.Prelude.{◌≡◌, ℕ, List, [], ◌∷◌, ◌++◌, drop, replicate, take}
use Rattle.dma_mem.specs.declared.call.Call.{Call}
use Rattle.dma_mem.specs.declared.call.Call.TheVariants as calls
use Rattle.dma_engine.specs.{Answer.AreAnswers, View.View, declared.call.Reply.Reply}
use Rattle.dma_io.specs.Command.{printed_text}
use Rattle.dma_script.specs.declared.statements.Statement.{Statement}
use Rattle.dma_script.specs.declared.statements.Statement.TheVariants as statements
use Rattle.dma_commands.specs.declared.run.call_list.Line.{Line}
use Rattle.dma_commands.specs.declared.run.call_list.Line.TheVariants as lines
use Rattle.dma_commands.specs.{Left.lines_left, Run.lines_answered}

-- the statements of lines, given the calls of all of them
abbrev pub statements_in : List Line → List Call → List Statement
statements_in [] own = []
statements_in (lines.Call ∷ rest) [] = []
statements_in (lines.Call ∷ rest) (call ∷ own) = statements.Call call ∷ statements_in rest own
statements_in (lines.Steps ch count ∷ rest) own = statements.Step ch count ∷ statements_in rest (drop count own)

-- The calls are those of the lines, in order.
abbrev pub IsWhole : List Line → List Call → Type 0
IsWhole [] own = own ≡ []
IsWhole (lines.Call ∷ rest) [] = ⊥
IsWhole (lines.Call ∷ rest) (call ∷ own) = IsWhole rest own
IsWhole (lines.Steps ch count ∷ rest) own = (take count own ≡ replicate count (calls.Step ch)) × IsWhole rest (drop count own)

-- All lines were executed, from one view to the other, and what they print was appended.
pub record AnswersLines (v : View) (lines : List Statement) (w : View) (old new : List ℕ) : Type 0 where
  pub left : w ≡ lines_left v lines
  pub text : new ≡ old ++ printed_text (lines_answered v lines)

-- Of all lines, executed from the view `v`, those before `rest` were executed, which led to the view `w`, and what they
-- print was appended.
pub record Reaches (v : View) (all : List Statement) (old : List ℕ) (w : View) (rest : List Statement) (new : List ℕ) : Type 0 where
  pub groups : List (List (List ℕ))
  pub answered : lines_answered v all ≡ groups ++ lines_answered w rest
  pub left : lines_left v all ≡ lines_left w rest
  pub text : new ≡ old ++ printed_text groups

-- The lines of a list before `rest` were printed, from the view `v`. The calls of `rest` have these replies, which lead
-- to the view `w`.
pub record Prints
    (v w : View) (all : List Statement) (old : List ℕ) (rest : List Line) (own : List Call) (replies : List Reply) (new : List ℕ)
    : Type 0 where
  pub now : View
  pub answers : AreAnswers now own replies w
  pub reached : Reaches v all old now (statements_in rest own) new
