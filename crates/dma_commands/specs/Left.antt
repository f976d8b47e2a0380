-- The view that a script leaves.
use Rattle.std.specs.Prelude.{ℕ, List, [], ◌∷◌, Ok, ◌≡◌}
use Rattle.dma_engine.specs.View.{IsSound, View, new_view}
use Rattle.dma_script.specs.{Statements.run_script_of, declared.statements.RunScript.RunScript, declared.statements.Statement.Statement}
use Rattle.dma_commands.specs.Run.{line_answer}

-- the view after lines of a script
abbrev pub lines_left : View → List Statement → View
lines_left v [] = v
lines_left v (line ∷ rest) = lines_left (line_answer v line).1 rest

-- the view after a script
abbrev pub view_after : RunScript → View
view_after script = lines_left (new_view script.size script.channels) script.statements

-- The view after a script is sound.
abbrev pub ScriptsLeaveSound : Type 0
ScriptsLeaveSound = (input : List ℕ) (script : RunScript) → run_script_of input ≡ Ok script → IsSound (view_after script)
