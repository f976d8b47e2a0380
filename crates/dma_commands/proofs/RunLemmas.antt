-- What the lines of a script print, and the view after them.
use Rattle.std.proofs.Common.{◌≡◌, ◌≢◌, ℕ, ◌<◌, ◌+◌, true, false, List, [], ◌∷◌, ◌++◌, length, Option, Some, None, ap, sym, ◌∙◌, take}
use Rattle.std.proofs.Common.{arith, append_assoc}
use Rattle.std.proofs.{Math.Seq.take-append-add, lemmas.List.append-nil, lemmas.List.length-append, lemmas.Result.on_err_weaker, lemmas.Result.on_ok_weaker}
use Rattle.std.specs.Prelude.{IsErr, OnErr, OnOk, Result}
use Rattle.dma_mem.specs.{Places.Descriptor, Refusals.refusal_of, declared.call.Call.Call, declared.transfer.TransferFault.TransferFault}
use Rattle.dma_engine.specs.declared.call.Reply.TheVariants.{Refused}
use Rattle.dma_engine.specs.Answer.{CallAnswers, answer}
use Rattle.dma_engine.specs.{declared.call.Reply.Reply}
use Rattle.dma_engine.specs.{declared.fault.EngineFault.TheVariants.NoMemory, View.View}
use Rattle.dma_engine.proofs.{JoinedCalls.answer_unless_no_memory}
use Rattle.dma_io.specs.Command.{Answers, AppendsGroups, Printed, printed_text, text_of}
use Rattle.dma_commands.specs.Printed.{call_line, refused_line, reply_text, transfer_fault_name}
use Rattle.dma_commands.specs.Run.{Answered, call_answer, copied, is_in_use, is_refused, most_copy_steps, stepped_to_end}
use Rattle.dma_commands.specs.Run.{unless_invalid}
use Rattle.dma_commands.specs.{inner.RunSteps.RunsLine}
use Rattle.dma_script.proofs.InterpretedLemmas.{printed_text_append}
use Rattle.dma_mem.specs.declared.call.Call.TheVariants.{Submit as SubmitCall, Issue as IssueCall}

-- ---- a line that was printed

-- an answered line was printed, or nothing was
pub printed_runs : {A E : Type 0} (answered : Answered) (w : View) (result : Result A E) (out out' : List ℕ) → OnOk result (w ≡ answered.1)
    → OnOk result (out' ≡ out ++ text_of answered.0) → OnErr result (out' ≡ out) → RunsLine answered w result out out'
printed_runs h h2 h3 h4 = grind (arith)

-- the line of a call and its reply
pub call_runs : {A E : Type 0} (v w : View) (call : Call) (reply : Reply) (result : Result A E) (out out' : List ℕ) → CallAnswers v call reply w
    → OnOk result (reply ≢ Refused NoMemory) → OnOk result (out' ≡ out ++ text_of (call_line call reply ∷ [])) → OnErr result (out' ≡ out)
    → RunsLine (call_answer v call) w result out out'
call_runs h h2 h3 h4 h5 = grind (arith, answer_unless_no_memory, printed_runs)

-- ---- a transfer's rules

-- a transfer that breaks a rule
pub unfit_runs : {A E : Type 0} (v : View) (fault : Option TransferFault) (e : TransferFault) (answered : Answered) (result : Result A E) (out out' : List ℕ)
    → fault ≡ Some e → OnOk result (out' ≡ out ++ text_of (refused_line (transfer_fault_name e) ∷ [])) → OnErr result (out' ≡ out)
    → RunsLine (unless_invalid fault v answered) v result out out'
unfit_runs v fault e answered result out out' is prints kept = grind (arith, printed_runs, on_ok_weaker)

-- a transfer that breaks none
pub fit_runs : {A E : Type 0} (answered : Descriptor → Answered) (v w : View) (t u : Descriptor) (result : Result A E) (out out' : List ℕ) → u ≡ t
    → refusal_of u ≡ None → RunsLine (answered u) w result out out' → RunsLine (unless_invalid (refusal_of t) v (answered t)) w result out out'
fit_runs answered v w t u result out out' is fit runs = rw (← is, fit) runs

-- ---- copies

module _ {A E : Type 0} (start : List ℕ) (v : View) (t : Descriptor) (free : is_in_use v ≡ false) where
  -- the submit of a copy was refused
  pub refused_copy_runs : (w : View) (submitted : Reply) (result : Result A E) (out out' : List ℕ) → (submitted, w) ≡ answer v (SubmitCall 0 t)
      → is_refused submitted ≡ true → OnOk result (out' ≡ out ++ text_of (reply_text submitted ∷ [])) → OnErr result (out' ≡ out)
      → RunsLine (copied start v t) w result out out'
  refused_copy_runs h h2 h3 h4 = grind (arith, printed_runs, on_ok_weaker)

  -- a copy was submitted, issued and stepped through
  pub copy_runs : (u x w : View) (submitted issued last : Reply) (result : Result A E) (out out' : List ℕ) → (submitted, u) ≡ answer v (SubmitCall 0 t)
      → is_refused submitted ≡ false → (issued, x) ≡ answer u (IssueCall 0) → (last, w) ≡ stepped_to_end most_copy_steps x
      → OnOk result (out' ≡ out ++ text_of ((start ++ reply_text last) ∷ [])) → OnErr result (out' ≡ out) → RunsLine (copied start v t) w result out out'
  copy_runs u x w submitted issued last result out out' are other is steps prints kept = grind (arith, printed_runs, on_ok_weaker)

-- an answer that is out of memory
pub answers_some : {E : Type 0} (printed : Printed) (result : Result ℕ E) (old new : List ℕ) → IsErr result → AppendsGroups printed.groups old new
    → Answers printed result old new
answers_some printed result old new h h2 = grind (arith)

-- an answer that is out of memory at once
pub answers_none : {E : Type 0} (printed : Printed) (result : Result ℕ E) (old new : List ℕ) → IsErr result → 0 < length printed.groups → new ≡ old
    → Answers printed result old new
answers_none printed result old new err some same = grind (arith, answers_some, append-nil)

-- an answer after other groups
pub answers_after : {E : Type 0} (front groups : List (List (List ℕ))) (status : ℕ) (result : Result ℕ E) (old mid new : List ℕ)
    → mid ≡ old ++ printed_text front → Answers (record { groups = groups; status = status }) result mid new
    → Answers (record { groups = front ++ groups; status = status }) result old new
answers_after front groups status result old mid new before a =
    let text : (more : List (List (List ℕ))) → mid ++ printed_text more ≡ old ++ printed_text (front ++ more) = λ more.
    ap (λ o. o ++ printed_text more) before ∙ append_assoc old (printed_text front) (printed_text more)
    ∙ ap (λ t. old ++ t) (sym (printed_text_append front more)) in
    record {
      text = on_ok_weaker result (λ whole. whole ∙ text groups) a.text;
      status = a.status;
      refused = on_err_weaker result (λ first. record {
        count = length front + first.count;
        some_left = omega (arith, length-append front groups, first.some_left);
        whole = first.whole ∙ text (take first.count groups) ∙ ap (λ g. old ++ printed_text g) (sym (take-append-add front groups first.count));
      }) a.refused;
    }

-- what the memory line prints comes before what the others print
pub answers_memory : {E : Type 0} (groups : List (List (List ℕ))) (status : ℕ) (result : Result ℕ E) (old new : List ℕ)
    → Answers (record { groups = groups; status = status }) result old new → Answers (record { groups = [] ∷ groups; status = status }) result old new
answers_memory groups status result old new a = answers_after ([] ∷ []) groups status result old old new (sym (append-nil old)) a
