-- A race as a run.
use Rattle.std.proofs.Common.{arith}
use Rattle.std.proofs.Common.{List, [], ◌∷◌, ◌++◌, ℕ, ◌≡◌, ap, append_assoc, refl, sym, ◌∙◌}
use Rattle.std.proofs.lemmas.List.Concat.{flat_map-append}
use Rattle.dma_engine.specs.{Interleaved.JobTurn, Interleaved.turns_taken, View.View}
use Rattle.dma_io.specs.Command.{Printed, text_of}
use Rattle.dma_script.specs.declared.statements.Statement.{Statement}
use Rattle.dma_commands.specs.Raced.{first_view, step_groups, step_statements}
use Rattle.dma_commands.specs.{Left.lines_left, Left.view_after, Run.line_answer, Run.lines_answered}
use Rattle.dma_seeds.specs.{Race.early_lines, Script.RacesAreRuns, Script.turn_line, Script.turns_text}
use Rattle.dma_commands.proofs.RacedLemmas.{races_are_runs as runs}

lines_answered_append : (v : View) (xs ys : List Statement) → lines_answered v (xs ++ ys) ≡ lines_answered v xs ++ lines_answered (lines_left v xs) ys
lines_answered_append v [] ys = refl
lines_answered_append v (x ∷ xs) ys = ap (λ l. (line_answer v x).0 ∷ l) (lines_answered_append (line_answer v x).1 xs ys)

pub races_are_runs : RacesAreRuns
races_are_runs script turns =
    let before = script.before.statements in
    let v = view_after script.before in
    let taken = turns_taken v turns in
    ap (λ (g : List (List (List ℕ))). let p : Printed = record { groups = [] ∷ g; status = 0 } in p)
    (ap (lines_answered (first_view script)) (append_assoc before (step_statements turns) script.after)
    ∙ lines_answered_append (first_view script) before (step_statements turns ++ script.after)
    ∙ ap (λ l. early_lines script ++ l) (runs v turns script.after)
    ∙ sym (append_assoc (early_lines script) (step_groups turns taken.0) (lines_answered taken.1 script.after)))

-- the text so far, with the line of the next turn
pub turn_more : (all now new : List ℕ) (turn : JobTurn) (turns left : List JobTurn) → all ≡ now ++ turns_text turns → turns ≡ turn ∷ left
    → new ≡ now ++ text_of (turn_line turn ∷ []) → all ≡ new ++ turns_text left
turn_more all now new turn turns left so_far split more = grind (arith, flat_map-append, append_assoc)
