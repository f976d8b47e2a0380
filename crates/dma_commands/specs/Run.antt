-- What `dmasim run` prints for an input.
use Rattle.std.specs.Prelude.{◌≡◌, ℕ, ◌+◌, ◌++◌, ◌∷◌, [], if◌then◌else◌, ◌||◌, Bool, true, false, nat_lt, Option, Result, Ok, Err, List, length, map, replicate}
use Rattle.std.specs.Prelude.{codes, decimal}
use Rattle.std.specs.{Option.option_map_or, Str.bytes_eq}
use Rattle.dma_mem.specs.{declared.transfer.TransferFault.TransferFault, Places.Descriptor, Rules.IsTransfer, Refusals.refusal_of, Steps.taken_in}
use Rattle.dma_mem.specs.{declared.call.Call.Call}
use Rattle.dma_engine.specs.View.{View, IsSound, new_view, object_of, schedule_at, running}
use Rattle.dma_engine.specs.{declared.call.Reply.Reply, declared.call.Reply.TheVariants.Cookie, declared.call.Reply.TheVariants.Refused, Advance.after_steps}
use Rattle.dma_engine.specs.{Advance.goes_on, Object.channel, Object.unfinished, Answer.answer, Answer.answers}
use Rattle.dma_io.specs.Command.{Printed, refusal}
use Rattle.dma_script.specs.{Statements.run_script_of, Printing.fault_line, declared.fault.Fault.Fault, declared.transfer_line.Origin.Origin}
use Rattle.dma_script.specs.{declared.transfer_line.TransferLine.TransferLine, declared.statements.RunScript.RunScript, declared.statements.Statement.Statement}
use Rattle.dma_commands.specs.{Printed.transfer_fault_name, Printed.refused_line, Printed.reply_text, Printed.call_line, Transfers.transfer_of}
use Rattle.dma_mem.specs.declared.call.Call.TheVariants as calls
use Rattle.dma_script.specs.declared.transfer_line.Origin.TheVariants as origins
use Rattle.dma_script.specs.declared.statements.Statement.TheVariants as statements

-- the lines that a line of the script prints, and the view after it
abbrev pub Answered : Type 0
Answered = List (List ℕ) × View

-- one line, and the view after it
abbrev pub one_line : List ℕ → View → Answered
one_line line v = (line ∷ [], v)

-- a script line that makes one call
abbrev pub call_answer : View → Call → Answered
call_answer v call = one_line (call_line call (answer v call).0) (answer v call).1

-- prints the rule that the transfer breaks and doesn't change the view; if it breaks none, this answer
abbrev pub unless_invalid : Option TransferFault → View → Answered → Answered
unless_invalid found v answered = option_map_or (λ e. one_line (refused_line (transfer_fault_name e)) v) found answered

-- a submit line: checks the transfer's own rules, then makes the call
abbrev pub submit_answer : View → ℕ → TransferLine → Answered
submit_answer v ch l = let t = transfer_of l in unless_invalid (refusal_of t) v (call_answer v (calls.Submit ch t))

-- ---- step lines

-- the runs with one more text in front: it is counted in the first run if the texts are equal, else it is a run of its
-- own
abbrev pub joined : List ℕ → List (List ℕ × ℕ) → List (List ℕ × ℕ)
joined text [] = (text, 1) ∷ []
joined text ((next, count) ∷ rest) =
    if bytes_eq text next then (text, count + 1) ∷ rest else (text, 1) ∷ (next, count) ∷ rest

-- the runs of equal consecutive texts, each with its length
abbrev pub runs_of : List (List ℕ) → List (List ℕ × ℕ)
runs_of [] = []
runs_of (text ∷ rest) = joined text (runs_of rest)

-- `step CH ANSWER xCOUNT`
abbrev pub step_line : ℕ → List ℕ × ℕ → List ℕ
step_line ch run = codes "step " ++ decimal ch ++ codes " " ++ run.0 ++ codes " x" ++ decimal run.1

-- the lines that are printed for the answers to steps of a channel
abbrev pub step_lines : ℕ → List (List ℕ) → List (List ℕ)
step_lines ch texts = map (step_line ch) (runs_of texts)

-- a step line: `count` steps of the channel, one after another
abbrev pub step_answer : View → ℕ → ℕ → Answered
step_answer v ch count =
    let after = answers v (replicate count (calls.Step ch)) in (step_lines ch (map reply_text after.0), after.1)

-- ---- copy and fill lines

-- channel 0 has an unfinished cookie, or is paused or halted
abbrev pub is_in_use : View → Bool
is_in_use v =
    nat_lt 0 (unfinished (channel (object_of v) 0)) || ((schedule_at v 0).paused || (channel (object_of v) 0).halted)

-- how many steps of channel 0 answer Started or Moved before the first that answers neither, at most `most`
unfoldable pub steps_before_last : ℕ → View → ℕ
steps_before_last most v = taken_in (λ k. goes_on (answer (after_steps v 0 k) (calls.Step 0)).0) most

-- The answer to the step after these, and the view after it.
abbrev pub stepped_to_end : ℕ → View → Reply × View
stepped_to_end most v = answer (after_steps v 0 (steps_before_last most v)) (calls.Step 0)

-- the limit for `stepped_to_end` in a copy or a fill; it cuts none of them off (`CopiesEnd`)
abbrev pub most_copy_steps : ℕ
most_copy_steps = 524288

-- Issues channel 0, steps it with `stepped_to_end`, and prints `start`, which is `copy ` or `fill `, and the last
-- answer.
abbrev pub issued_and_stepped : List ℕ → View → Answered
issued_and_stepped start v =
    let last = stepped_to_end most_copy_steps (answer v (calls.Issue 0)).1 in one_line (start ++ reply_text last.0) last.1

-- whether a reply is a refusal
abbrev pub is_refused : Reply → Bool
is_refused (Refused fault) = true
is_refused _ = false

-- a copy or a fill after its submit: prints a refusal of the submit, else issues channel 0 and steps it
abbrev pub copied_after : List ℕ → Reply × View → Answered
copied_after start after =
    if is_refused after.0 then one_line (reply_text after.0) after.1 else issued_and_stepped start after.1

-- a copy or a fill whose transfer keeps its rules: prints `refused ChannelInUse` and changes nothing if channel 0 is
-- in use, else submits the transfer to channel 0 and continues with `copied_after`
abbrev pub copied : List ℕ → View → Descriptor → Answered
copied start v t =
    if is_in_use v then one_line (refused_line (codes "ChannelInUse")) v else copied_after start (answer v (calls.Submit 0 t))

-- a copy or a fill line whose printed answer begins with `start`: checks the transfer's own rules first
abbrev pub transfer_answer : View → List ℕ → Descriptor → Answered
transfer_answer v start t = unless_invalid (refusal_of t) v (copied start v t)

-- the beginning of the printed answer of a copy or a fill
abbrev pub start_of : Origin → List ℕ
start_of (origins.List src) = codes "copy "
start_of (origins.Place addr) = codes "fill "

-- a copy or a fill line
abbrev pub copy_answer : View → TransferLine → Answered
copy_answer v line = transfer_answer v (start_of line.src) (transfer_of line)

-- If channel 0 of a sound view isn't in use, and a transfer that keeps its rules is submitted to it with success and
-- issued, then the last answer of `stepped_to_end most_copy_steps` is neither Started nor Moved. So `most_copy_steps`
-- cuts off no copy or fill.
abbrev pub CopiesEnd : Type 0
CopiesEnd =
    (v : View) (t : Descriptor) (cookie : ℕ) (w : View) → IsSound v → IsTransfer t → is_in_use v ≡ false →
    answer v (calls.Submit 0 t) ≡ (Cookie cookie, w) →
    goes_on (stepped_to_end most_copy_steps (answer w (calls.Issue 0)).1).0 ≡ false

-- ---- whole scripts

-- `totals entries N steps N running N`
abbrev pub totals_line : ℕ → ℕ → ℕ → List ℕ
totals_line entries steps running =
    codes "totals entries " ++ decimal entries ++ codes " steps " ++ decimal steps ++ codes " running " ++ decimal running

-- the line of a view's totals
abbrev pub totals_of : View → List ℕ
totals_of v = totals_line (length v.history) v.steps (length (running (object_of v) v.schedule))

-- What a script line prints on an engine with this view, and the view after it.
abbrev pub line_answer : View → Statement → Answered
line_answer v (statements.Call call) = call_answer v call
line_answer v (statements.Submit ch transfer) = submit_answer v ch transfer
line_answer v (statements.Copy transfer) = copy_answer v transfer
line_answer v (statements.Step ch count) = step_answer v ch count
line_answer v statements.Totals = one_line (totals_of v) v

-- what each line prints: the first runs on this view, each other on the view after the line before it
abbrev pub lines_answered : View → List Statement → List (List (List ℕ))
lines_answered v [] = []
lines_answered v (line ∷ rest) = (line_answer v line).0 ∷ lines_answered (line_answer v line).1 rest

-- What is printed for a parsed script: nothing for its memory line, then what its lines print, with status 0. A script
-- with a fault prints its first fault.
abbrev pub printed_of : Result RunScript Fault → Printed
printed_of (Ok script) =
    record { groups = [] ∷ lines_answered (new_view script.size script.channels) script.statements; status = 0 }
printed_of (Err fault) = refusal (fault_line fault)

-- What is printed for an input.
abbrev pub printed : List ℕ → Printed
printed input = printed_of (run_script_of input)
