-- The transfers that a script submits meet their rules.
use Rattle.std.proofs.Common.{arith}
use Rattle.std.proofs.Common.{◌≡◌, ℕ, suc, List, [], ◌∷◌, Option, refl}
use Rattle.std.specs.{Prelude.replicate, List.All}
use Rattle.std.proofs.lemmas.Bool.{cond_both}
use Rattle.std.proofs.lemmas.List.Elements.{All-append, All-cons, All-head, All-nil, All-replicate, All-tail}
use Rattle.dma_mem.specs.{Places.Descriptor, Refusals.refusal_of, Rules.HasOneByte, Rules.IsTransfer, declared.segment.Segment.Segment}
use Rattle.dma_mem.specs.{declared.transfer.TransferFault.TransferFault, declared.call.Call.Call}
use Rattle.dma_mem.proofs.TransferRules.{IsTransfer_from_no_refusal}
use Rattle.dma_engine.specs.{View.View, Answer.answer, Laws.IsCall}
use Rattle.dma_script.specs.{declared.transfer_line.Origin.Origin, declared.transfer_line.TransferLine.TransferLine, declared.statements.Statement.Statement}
use Rattle.dma_script.proofs.Within.{IsNoSubmit}
use Rattle.dma_commands.specs.Laws.{calls_after, calls_in, calls_of, issue_and_step_calls, if_valid, transfer_calls, view_after}
use Rattle.dma_commands.specs.{Run.is_in_use, Run.is_refused, Run.most_copy_steps, Run.steps_before_last, Transfers.transfer_from, Transfers.transfer_of}
use Rattle.dma_mem.specs.declared.call.Call.TheVariants as calls
use Rattle.dma_script.specs.declared.transfer_line.Origin.TheVariants as origins
use Rattle.dma_script.specs.declared.statements.Statement.TheVariants as statements

-- ---- lists of which all can be made

none_made_law : All IsCall []
none_made_law = All-nil IsCall

alone : (call : Call) → IsCall call → All IsCall (call ∷ [])
alone call one = All-cons IsCall call [] one none_made_law

-- ---- the transfers of lines

from_byte : (src : Origin) (dst : List Segment) (wait signal : Option ℕ) → HasOneByte (transfer_from src dst wait signal)
from_byte (origins.List src) dst wait signal = λ e. absurd cc
from_byte (origins.Place src) dst wait signal = λ _. (src, refl)

pub line_byte : (line : TransferLine) → HasOneByte (transfer_of line)
line_byte line = from_byte line.src line.dst line.wait line.signal

-- the calls of a transfer that is made where it breaks no rule
fit_made : (t : Descriptor) (fault : Option TransferFault) (cs : List Call) → HasOneByte t → refusal_of t ≡ fault → (IsTransfer t → All IsCall cs)
    → All IsCall (if_valid fault cs)
fit_made t fault cs h h2 h3 = grind (arith, IsTransfer_from_no_refusal, none_made_law)

through_made_law : (v : View) (t : Descriptor) → IsTransfer t → All IsCall (transfer_calls v t)
through_made_law v t rules =
    let s = answer v (calls.Submit 0 t) in
    let w = (answer s.1 (calls.Issue 0)).1 in
    cond_both {A = List Call} (is_in_use v) [] (calls.Submit 0 t ∷ calls_after s) (All IsCall) (λ _. none_made_law)
    (λ _. All-cons IsCall (calls.Submit 0 t) (calls_after s) rules
    (cond_both {A = List Call} (is_refused s.0) [] (issue_and_step_calls s.1) (All IsCall) (λ _. none_made_law)
    (λ _. All-cons IsCall (calls.Issue 0) (replicate (suc (steps_before_last most_copy_steps w)) (calls.Step 0)) tt
    (All-replicate IsCall (suc (steps_before_last most_copy_steps w)) (calls.Step 0) tt))))

-- the call of a line that is read
plain_made : (call : Call) → IsNoSubmit (statements.Call call) → IsCall call
plain_made call h = grind (arith)

pub line_made_law : (v : View) (line : Statement) → IsNoSubmit line → All IsCall (calls_of v line)
line_made_law v (statements.Call call) read = alone call (plain_made call read)
line_made_law v (statements.Submit ch line) read =
    let t = transfer_of line in
    fit_made t (refusal_of t) (calls.Submit ch t ∷ []) (line_byte line) refl (alone (calls.Submit ch t))
line_made_law v (statements.Copy line) read =
    let t = transfer_of line in
    fit_made t (refusal_of t) (transfer_calls v t) (line_byte line) refl (through_made_law v t)
line_made_law v (statements.Step ch count) read = All-replicate IsCall count (calls.Step ch) tt
line_made_law v statements.Totals read = none_made_law

-- all calls of a script can be made
pub calls_made_law : (v : View) (lines : List Statement) → All IsNoSubmit lines → All IsCall (calls_in v lines)
calls_made_law v [] read = none_made_law
calls_made_law v (line ∷ rest) read =
    All-append IsCall (calls_of v line) (calls_in (view_after v line) rest) (line_made_law v line (All-head IsNoSubmit line rest read))
    (calls_made_law (view_after v line) rest (All-tail IsNoSubmit line rest read))
