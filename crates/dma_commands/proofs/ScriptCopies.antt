-- No copy or fill of a script is cut off.
use Rattle.std.proofs.Common.{◌≡◌, ℕ, ◌+◌, ◌<◌, zero, suc, true, false, List, [], ◌∷◌, Option, Some, None, ap, sym, subst, arith}
use Rattle.std.specs.{Prelude.replicate, List.All}
use Rattle.std.proofs.{lemmas.Bool.cond_both, lemmas.List.Elements.All-head, lemmas.List.Elements.All-tail}
use Rattle.dma_mem.specs.Rules.{HasOneByte, IsTransfer}
use Rattle.dma_mem.specs.{Places.Descriptor, Refusals.refusal_of, declared.transfer.TransferFault.TransferFault}
use Rattle.dma_mem.proofs.TransferRules.{IsTransfer_from_no_refusal}
use Rattle.dma_engine.specs.{declared.call.Reply.Reply, declared.call.Reply.TheVariants.Cookie, declared.fault.EngineFault.EngineFault, Object.channel}
use Rattle.dma_engine.specs.{Object.used, Turn.with_entry, declared.entry.Entry.TheVariants.Submitted, View.IsSound, View.View, View.object_of}
use Rattle.dma_engine.specs.{Advance.after_steps, Advance.goes_on, Answer.answer, Answer.answers, Answer.submit_fault, Answer.unless}
use Rattle.dma_engine.proofs.JoinedCalls.{answers_unless_no_memory}
use Rattle.dma_script.specs.declared.statements.Statement.{Statement}
use Rattle.dma_script.proofs.Within.{IsNoSubmit}
use Rattle.dma_commands.specs.Laws.{AreWhole, CopiesAreWhole, IsWhole, IsWholeCopy, StepsEnd, calls_after, calls_in, calls_of, if_valid, opening_of}
use Rattle.dma_commands.specs.Laws.{script_calls, transfer_calls, view_after}
use Rattle.dma_commands.specs.{Run.CopiesEnd, Run.is_in_use, Run.most_copy_steps, Run.steps_before_last}
use Rattle.dma_commands.proofs.{CopyLemmas.before_last_on, ScriptCalls.first_replies, ScriptCalls.later_replies, ScriptSubmits.line_byte}
use Rattle.dma_commands.proofs.{ScriptsSound.line_sound, ScriptsSound.opening_sound, ScriptsWithin.script_within}
use Rattle.dma_mem.specs.declared.call.Call.TheVariants as calls

-- ---- steps

one_step_more : (reply : Reply) (rest : List Reply) → goes_on reply ≡ true → StepsEnd rest → StepsEnd (reply ∷ rest)
one_step_more reply rest h h2 = grind (arith)

steps_end_law : (n : ℕ) (v : View) → ((k : ℕ) → k < n → goes_on (answer (after_steps v 0 k) (calls.Step 0)).0 ≡ true)
    → goes_on (answer (after_steps v 0 n) (calls.Step 0)).0 ≡ false → StepsEnd (answers v (replicate (suc n) (calls.Step 0))).0
steps_end_law zero v on off = off
steps_end_law (suc n) v on off =
    let first = answer v (calls.Step 0) in
    one_step_more first.0 (answers first.1 (replicate (suc n) (calls.Step 0))).0 (on 0 (omega arith))
    (steps_end_law n first.1 (λ k less. on (suc k) (omega (arith, less))) off)

-- ---- a copy

-- the replies of a copy are whole, whether its submit is refused or not
submitted_whole : CopiesEnd → (v : View) (t : Descriptor) (fault : Option EngineFault) → IsSound v → IsTransfer t → is_in_use v ≡ false
    → submit_fault v 0 t ≡ fault
    → (let s = unless fault v (Cookie (used (channel (object_of v) 0) + 1), with_entry v (Submitted 0 t (used (channel (object_of v) 0) + 1))) in
    IsWholeCopy (s.0 ∷ (answers s.1 (calls_after s)).0))
submitted_whole ends v t (Some fault) sound rules free is = tt
submitted_whole ends v t None sound rules free is =
    let cookie = used (channel (object_of v) 0) + 1 in
    let w = with_entry v (Submitted 0 t cookie) in
    let took : answer v (calls.Submit 0 t) ≡ (Cookie cookie, w) = ap (λ (f : Option EngineFault). unless f v (Cookie cookie, w)) is in
    let u = (answer w (calls.Issue 0)).1 in
    steps_end_law (steps_before_last most_copy_steps u) u (before_last_on most_copy_steps u) (ends v t cookie w sound rules free took)

through_whole : CopiesEnd → (v : View) (t : Descriptor) → IsSound v → IsTransfer t → IsWholeCopy (answers v (transfer_calls v t)).0
through_whole ends v t sound rules = grind (arith, cond_both, submitted_whole)

fit_whole : CopiesEnd → (v : View) (t : Descriptor) (fault : Option TransferFault) → IsSound v → HasOneByte t → refusal_of t ≡ fault
    → IsWholeCopy (answers v (if_valid fault (transfer_calls v t))).0
fit_whole h v t fault h2 h3 h4 = grind (arith, through_whole, IsTransfer_from_no_refusal)

-- ---- the lines of a script

line_whole : CopiesEnd → (v : View) (line : Statement) → IsSound v → IsWhole line (answers v (calls_of v line)).0
line_whole h v line h2 = grind (arith, fit_whole, line_byte)

lines_whole_law : CopiesEnd → (v : View) (lines : List Statement) → All IsNoSubmit lines → IsSound v → AreWhole v lines (answers v (calls_in v lines)).0
lines_whole_law ends v [] read sound = tt
lines_whole_law ends v (line ∷ rest) read sound =
    let w = view_after v line in
    let next : IsSound w = line_sound v line (All-head IsNoSubmit line rest read) sound in (
      subst (λ (r : List Reply). IsWhole line r) (sym (first_replies v line rest)) (line_whole ends v line sound),
      subst (λ (r : List Reply). AreWhole w rest r) (sym (later_replies v line rest)) (lines_whole_law ends w rest (All-tail IsNoSubmit line rest read) next),
    )

pub copies_are_whole : CopiesEnd → CopiesAreWhole
copies_are_whole ends input script replies left read served made =
    let v = opening_of script in
    let cs = script_calls script in
    subst (λ (x : List Reply × View). AreWhole v script.statements x.0) (sym (answers_unless_no_memory v left cs replies served made))
    (lines_whole_law ends v script.statements (script_within input script read).1 (opening_sound input script read))
