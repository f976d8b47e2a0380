-- What a line prints is computed from the replies to its calls.
use Rattle.std.proofs.Common.{arith}
use Rattle.std.proofs.Common.{◌≡◌, ℕ, zero, suc, Bool, true, false, if◌then◌else◌, List, [], ◌∷◌, ◌++◌, length, take, drop, codes, Option, refl, ap}
use Rattle.std.proofs.Common.{sym, ◌∙◌}
use Rattle.std.specs.Prelude.{replicate}
use Rattle.std.proofs.Math.Seq.{take-append_seam, drop-append_seam}
use Rattle.dma_mem.specs.{Places.Descriptor, declared.transfer.TransferFault.TransferFault, declared.call.Call.Call}
use Rattle.dma_engine.specs.{declared.call.Reply.Reply, Advance.after_steps, View.View, Answer.answer, Answer.answers}
use Rattle.dma_script.specs.declared.statements.Statement.{Statement}
use Rattle.dma_commands.specs.Run.{Answered, call_answer, issued_and_stepped, copied, copied_after, line_answer, lines_answered}
use Rattle.dma_commands.specs.Run.{most_copy_steps, steps_before_last, one_line, unless_invalid}
use Rattle.dma_commands.specs.Laws.{call_lines, calls_after, calls_in, calls_of, issue_and_step_calls, groups_from, if_valid, last_of, lines_from, rule_or}
use Rattle.dma_commands.specs.Laws.{transfer_calls, transfer_lines, view_after}
use Rattle.dma_commands.specs.{Printed.refused_line, Printed.reply_text}
use Rattle.dma_engine.proofs.JoinedCalls.{answers_append_law}
use Rattle.dma_mem.specs.declared.call.Call.TheVariants as calls

-- ---- a copy's steps

-- the last of several steps
last_step : (n : ℕ) (v : View) (before : Reply)
    → answer (after_steps v 0 n) (calls.Step 0) ≡ (let q = answers v (replicate (suc n) (calls.Step 0)) in (last_of before q.0, q.1))
last_step zero v before = refl
last_step (suc n) v before =
    let first = answer v (calls.Step 0) in last_step n first.1 first.0

-- ---- a copy's line

-- what a copy prints for its replies, and the view after them
abbrev through_made : List ℕ → List Reply × View → Answered
through_made start a = (transfer_lines start a.0, a.1)

abbrev with_first : Reply → List Reply × View → List Reply × View
with_first reply rest = (reply ∷ rest.0, rest.1)

-- an issue and its steps
carried_is : (start : List ℕ) (v : View) (submitted : Reply)
    → issued_and_stepped start v ≡ through_made start (with_first submitted (answers v (issue_and_step_calls v)))
carried_is start v submitted =
    let issued = answer v (calls.Issue 0) in
    ap (λ (last : Reply × View). one_line (start ++ reply_text last.0) last.1)
    (last_step (steps_before_last most_copy_steps issued.1) issued.1 issued.0)

after_is : (start : List ℕ) (s : Reply × View) (b : Bool)
    → (if b then one_line (reply_text s.0) s.1 else issued_and_stepped start s.1) ≡ through_made start
    (with_first s.0 (answers s.1 (if b then [] else issue_and_step_calls s.1)))
after_is start s true = refl
after_is start s false = carried_is start s.1 s.0

copied_is : (start : List ℕ) (v : View) (t : Descriptor) (b : Bool)
    → (if b then one_line (refused_line (codes "ChannelInUse")) v else copied_after start (answer v (calls.Submit 0 t))) ≡ through_made start
    (answers v (if b then [] else calls.Submit 0 t ∷ calls_after (answer v (calls.Submit 0 t))))
copied_is start v t b = grind (arith, after_is)

-- what is made of the replies to the calls of a transfer's line, which breaks this rule or none
abbrev rule_made : Option TransferFault → (List Reply → List (List ℕ)) → List Reply × View → Answered
rule_made fault lines a = (rule_or fault (lines a.0), a.1)

through_is : (start : List ℕ) (v : View) (t : Descriptor) (fault : Option TransferFault)
    → unless_invalid fault v (copied start v t) ≡ rule_made fault (transfer_lines start) (answers v (if_valid fault (transfer_calls v t)))
through_is start v t fault = grind (arith, copied_is)

submit_is : (v : View) (ch : ℕ) (t : Descriptor) (fault : Option TransferFault)
    → unless_invalid fault v (call_answer v (calls.Submit ch t)) ≡ rule_made fault (call_lines (calls.Submit ch t ∷ []))
    (answers v (if_valid fault (calls.Submit ch t ∷ [])))
submit_is v ch t fault = grind (arith)

-- ---- a line

-- what is made of the replies to a line's calls
abbrev pub line_made : View → Statement → List Reply × View → Answered
line_made v line a = (lines_from v line a.0, a.1)

pub line_is : (v : View) (line : Statement) → line_answer v line ≡ line_made v line (answers v (calls_of v line))
line_is v line = grind (arith, submit_is, through_is)

-- ---- the lines of a script

length_answers : (v : View) (cs : List Call) → length (answers v cs).0 ≡ length cs
length_answers v [] = refl
length_answers v (call ∷ cs) = ap suc (length_answers (answer v call).1 cs)

-- the replies to a line's own calls, and those to the calls of the lines behind it
pub first_replies : (v : View) (line : Statement) (rest : List Statement)
    → take (length (calls_of v line)) (answers v (calls_in v (line ∷ rest))).0 ≡ (answers v (calls_of v line)).0
first_replies v line rest = grind (arith, answers_append_law, length_answers, take-append_seam)

pub later_replies : (v : View) (line : Statement) (rest : List Statement)
    → drop (length (calls_of v line)) (answers v (calls_in v (line ∷ rest))).0 ≡ (answers (view_after v line) (calls_in (view_after v line) rest)).0
later_replies v line rest = grind (arith, answers_append_law, length_answers, drop-append_seam)

pub groups_are : (v : View) (lines : List Statement) → lines_answered v lines ≡ groups_from v lines (answers v (calls_in v lines)).0
groups_are v [] = refl
groups_are v (line ∷ rest) =
    let w = view_after v line in
    let n = length (calls_of v line) in
    let all = (answers v (calls_in v (line ∷ rest))).0 in
    let own = (answers v (calls_of v line)).0 in
    ap (λ (x : Answered). x.0 ∷ lines_answered x.1 rest) (line_is v line)
    ∙ ap (λ (g : List (List (List ℕ))). lines_from v line own ∷ g) (groups_are w rest)
    ∙ sym (ap (λ (r : List Reply). lines_from v line r ∷ groups_from w rest (drop n all)) (first_replies v line rest)
    ∙ ap (λ (r : List Reply). lines_from v line own ∷ groups_from w rest r) (later_replies v line rest))
