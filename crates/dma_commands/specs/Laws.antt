-- Which engine calls a script makes, and how its output is computed from their replies.
use Rattle.std.specs.Prelude.{◌≡◌, ◌≢◌, ℕ, suc, ◌++◌, ◌∷◌, [], true, false, if◌then◌else◌, Option, Some, None, Ok, List, length, map, take, drop, replicate}
use Rattle.std.specs.Prelude.{codes}
use Rattle.std.specs.List.{All}
use Rattle.dma_mem.specs.{Places.Descriptor, Refusals.refusal_of, declared.transfer.TransferFault.TransferFault, declared.call.Call.Call}
use Rattle.dma_engine.specs.{declared.call.Reply.Reply, declared.call.Reply.TheVariants.Cookie, declared.call.Reply.TheVariants.Refused}
use Rattle.dma_engine.specs.{declared.fault.EngineFault.TheVariants.NoMemory, Advance.goes_on, View.View, View.new_fault, View.new_view, Answer.AreAnswers}
use Rattle.dma_engine.specs.{Answer.answer, Answer.answers, Laws.IsCall}
use Rattle.dma_io.specs.Command.{Printed}
use Rattle.dma_script.specs.{Statements.run_script_of, declared.statements.RunScript.RunScript, declared.statements.Statement.Statement}
use Rattle.dma_commands.specs.Run.{is_in_use, is_refused, line_answer, most_copy_steps, printed, start_of, step_lines, steps_before_last, totals_of}
use Rattle.dma_commands.specs.{Printed.call_line, Printed.refused_line, Printed.reply_text, Printed.transfer_fault_name, Transfers.transfer_of}
use Rattle.dma_mem.specs.declared.call.Call.TheVariants as calls
use Rattle.dma_script.specs.declared.statements.Statement.TheVariants as statements

-- ---- the calls of a line

-- These calls for a transfer that breaks no rule; no call for one that does.
abbrev pub if_valid : Option TransferFault → List Call → List Call
if_valid None calls = calls
if_valid (Some fault) calls = []

-- The calls that issue channel 0 and then step it.
abbrev pub issue_and_step_calls : View → List Call
issue_and_step_calls v =
    let before = steps_before_last most_copy_steps (answer v (calls.Issue 0)).1 in
    calls.Issue 0 ∷ replicate (suc before) (calls.Step 0)

-- The calls of a copy or a fill after its submit: none if the submit is refused, else the issue and the steps.
abbrev pub calls_after : Reply × View → List Call
calls_after submitted = if is_refused submitted.0 then [] else issue_and_step_calls submitted.1

-- The calls of a copy or a fill whose transfer keeps its rules: none if channel 0 is in use, else the submit to
-- channel 0 and the calls after it.
abbrev pub transfer_calls : View → Descriptor → List Call
transfer_calls v t = if is_in_use v then [] else calls.Submit 0 t ∷ calls_after (answer v (calls.Submit 0 t))

-- The calls of a line, in order, on an engine with this view. Only those of a copy and a fill depend on the view.
abbrev pub calls_of : View → Statement → List Call
calls_of v (statements.Call call) = call ∷ []
calls_of v (statements.Submit ch line) =
    let t = transfer_of line in if_valid (refusal_of t) (calls.Submit ch t ∷ [])
calls_of v (statements.Copy line) =
    let t = transfer_of line in if_valid (refusal_of t) (transfer_calls v t)
calls_of v (statements.Step ch count) = replicate count (calls.Step ch)
calls_of v statements.Totals = []

-- the view after the calls of a line
abbrev pub view_after : View → Statement → View
view_after v line = (answers v (calls_of v line)).1

-- the calls of lines, one line after another
abbrev pub calls_in : View → List Statement → List Call
calls_in v [] = []
calls_in v (line ∷ rest) = calls_of v line ++ calls_in (view_after v line) rest

-- ---- what is printed of their replies

-- one line for each call
abbrev pub call_lines : List Call → List Reply → List (List ℕ)
call_lines (call ∷ calls) (reply ∷ replies) = call_line call reply ∷ call_lines calls replies
call_lines _ _ = []

-- The refusal line if the transfer breaks a rule, else these lines.
abbrev pub rule_or : Option TransferFault → List (List ℕ) → List (List ℕ)
rule_or (Some fault) lines = refused_line (transfer_fault_name fault) ∷ []
rule_or None lines = lines

-- the last of these replies
abbrev pub last_of : Reply → List Reply → Reply
last_of reply [] = reply
last_of reply (next ∷ rest) = last_of next rest

-- What a copy or a fill whose transfer keeps its rules prints, by the replies to its calls: `refused ChannelInUse`
-- without any reply, the submit's reply if it is the only one, else `start` followed by the last reply.
abbrev pub transfer_lines : List ℕ → List Reply → List (List ℕ)
transfer_lines start [] = refused_line (codes "ChannelInUse") ∷ []
transfer_lines start (submitted ∷ []) = reply_text submitted ∷ []
transfer_lines start (submitted ∷ issued ∷ steps) = (start ++ reply_text (last_of issued steps)) ∷ []

-- What a line prints, computed from the replies to its calls. `totals` makes no call and prints the counts of the view.
abbrev pub lines_from : View → Statement → List Reply → List (List ℕ)
lines_from v (statements.Call call) replies = call_lines (call ∷ []) replies
lines_from v (statements.Submit ch line) replies =
    let t = transfer_of line in rule_or (refusal_of t) (call_lines (calls.Submit ch t ∷ []) replies)
lines_from v (statements.Copy line) replies =
    rule_or (refusal_of (transfer_of line)) (transfer_lines (start_of line.src) replies)
lines_from v (statements.Step ch count) replies = step_lines ch (map reply_text replies)
lines_from v statements.Totals replies = totals_of v ∷ []

-- what each line prints, computed from the replies to its own calls
abbrev pub groups_from : View → List Statement → List Reply → List (List (List ℕ))
groups_from v [] replies = []
groups_from v (line ∷ rest) replies =
    let own = length (calls_of v line) in
    lines_from v line (take own replies) ∷ groups_from (view_after v line) rest (drop own replies)

-- ---- whole scripts

-- the view of the new engine that a script runs on
abbrev pub opening_of : RunScript → View
opening_of script = new_view script.size script.channels

-- the calls of a script, in order
abbrev pub script_calls : RunScript → List Call
script_calls script = calls_in (opening_of script) script.statements

-- What a script prints, computed from the replies to its calls: nothing for its memory line, then what its lines
-- print, with status 0.
abbrev pub printed_from : RunScript → List Reply → Printed
printed_from script replies =
    record { groups = [] ∷ groups_from (opening_of script) script.statements replies; status = 0 }

-- no reply is a refusal with `NoMemory`
abbrev pub HaveMemory : List Reply → Type 0
HaveMemory replies = All (λ reply. reply ≢ Refused NoMemory) replies

-- For every view and every line there are replies, none of them out of memory, such that an engine with this view may
-- answer the line's calls with them and then has the view after the line. The line prints what `lines_from` computes
-- from these replies.
abbrev pub LinesPrintAnswers : Type 0
LinesPrintAnswers =
    (v : View) (line : Statement) → (replies : List Reply) × HaveMemory replies
    × AreAnswers v (calls_of v line) replies (line_answer v line).1
    × ((line_answer v line).0 ≡ lines_from v line replies)

-- For a script without a fault, the engine of its memory line can be made (`new_fault` is `None`), each call of the
-- script satisfies `IsCall`, and there are replies, none of them out of memory, that a new engine may give to these
-- calls and from which `printed_from` computes what is printed.
abbrev pub ScriptsPrintAnswers : Type 0
ScriptsPrintAnswers =
    (input : List ℕ) (script : RunScript) → run_script_of input ≡ Ok script
    → (new_fault script.size script.channels ≡ None) × All IsCall (script_calls script)
    × ((replies : List Reply) × (left : View) × HaveMemory replies
    × AreAnswers (opening_of script) (script_calls script) replies left
    × (printed input ≡ printed_from script replies))

-- Whatever replies a new engine gives to the calls of a script: if none is out of memory, `printed_from` computes what
-- is printed from them.
abbrev pub ScriptsPrintReplies : Type 0
ScriptsPrintReplies =
    (input : List ℕ) (script : RunScript) (replies : List Reply) (left : View) → run_script_of input ≡ Ok script
    → HaveMemory replies → AreAnswers (opening_of script) (script_calls script) replies left
    → printed input ≡ printed_from script replies

-- ---- copies and fills

-- the replies to the steps of a copy or a fill that isn't cut off: there is at least one, the last is neither Started
-- nor Moved, and all others are Started or Moved
abbrev pub StepsEnd : List Reply → Type 0
StepsEnd [] = ⊥
StepsEnd (last ∷ []) = goes_on last ≡ false
StepsEnd (reply ∷ rest) = (goes_on reply ≡ true) × StepsEnd rest

-- The replies to the calls of a whole copy or fill: none; or only a refusal of its submit; or a cookie, the reply to
-- the issue, and replies to steps that end (`StepsEnd`).
abbrev pub IsWholeCopy : List Reply → Type 0
IsWholeCopy [] = Unit {0}
IsWholeCopy (Refused fault ∷ []) = Unit {0}
IsWholeCopy (Cookie cookie ∷ issued ∷ steps) = StepsEnd steps
IsWholeCopy _ = ⊥

-- the replies to the calls of a copy or a fill satisfy `IsWholeCopy`; nothing is required of other lines
abbrev pub IsWhole : Statement → List Reply → Type 0
IsWhole (statements.Copy line) replies = IsWholeCopy replies
IsWhole _ replies = Unit {0}

-- `IsWhole` holds for each of these lines, one after another, with the replies to its own calls
abbrev pub AreWhole : View → List Statement → List Reply → Type 0
AreWhole v [] replies = Unit {0}
AreWhole v (line ∷ rest) replies =
    let own = length (calls_of v line) in
    IsWhole line (take own replies) × AreWhole (view_after v line) rest (drop own replies)

-- Whatever replies a new engine gives to the calls of a script: if none is out of memory, no copy or fill is cut off.
abbrev pub CopiesAreWhole : Type 0
CopiesAreWhole =
    (input : List ℕ) (script : RunScript) (replies : List Reply) (left : View) → run_script_of input ≡ Ok script
    → HaveMemory replies → AreAnswers (opening_of script) (script_calls script) replies left
    → AreWhole (opening_of script) script.statements replies
