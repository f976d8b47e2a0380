-- The views on the way through a script are sound.
use Rattle.std.proofs.Common.{◌≡◌, ℕ, List, [], ◌∷◌, ap, subst, sym}
use Rattle.std.specs.{Prelude.Ok, List.All}
use Rattle.std.proofs.lemmas.List.Elements.{All-head, All-tail}
use Rattle.dma_engine.specs.{View.IsSound, View.View, Answer.answers}
use Rattle.dma_engine.proofs.{JoinedCalls.answers_are_answers, StaysSound.calls_stay_sound, StaysSound.new_views_are_sound}
use Rattle.dma_script.specs.{Statements.run_script_of, declared.statements.RunScript.RunScript, declared.statements.Statement.Statement}
use Rattle.dma_script.proofs.Within.{IsNoSubmit}
use Rattle.dma_commands.specs.{Laws.calls_of, Laws.opening_of, Laws.view_after, Left.ScriptsLeaveSound, Left.lines_left, Run.Answered, Run.line_answer}
use Rattle.dma_commands.proofs.{ScriptCalls.line_is, ScriptSubmits.line_made_law, ScriptsWithin.can_be_made, ScriptsWithin.script_within}

pub opening_sound : (input : List ℕ) (script : RunScript) → run_script_of input ≡ Ok script → IsSound (opening_of script)
opening_sound input script read =
    new_views_are_sound script.size script.channels (can_be_made script (script_within input script read).0)

pub line_sound : (v : View) (line : Statement) → IsNoSubmit line → IsSound v → IsSound (view_after v line)
line_sound v line read sound =
    let own = calls_of v line in
    let a = answers v own in (calls_stay_sound v a.1 own a.0 (line_made_law v line read) sound (answers_are_answers v own)).0

lines_sound : (v : View) (lines : List Statement) → All IsNoSubmit lines → IsSound v → IsSound (lines_left v lines)
lines_sound v [] read sound = sound
lines_sound v (line ∷ rest) read sound =
    let next : IsSound (line_answer v line).1 =
    subst IsSound (sym (ap (λ (x : Answered). x.1) (line_is v line))) (line_sound v line (All-head IsNoSubmit line rest read) sound) in
    lines_sound (line_answer v line).1 rest (All-tail IsNoSubmit line rest read) next

pub scripts_leave_sound : ScriptsLeaveSound
scripts_leave_sound input script read =
    lines_sound (opening_of script) script.statements (script_within input script read).1 (opening_sound input script read)
