-- Scripts make calls of the engine and print its replies.
use Rattle.std.proofs.Common.{◌≡◌, ◌≢◌, ℕ, zero, suc, false, List, [], ◌∷◌, Option, ap, sym, subst, arith}
use Rattle.std.specs.Prelude.{is_none, Ok}
use Rattle.std.proofs.lemmas.Bool.{le-ltb}
use Rattle.dma_mem.specs.{declared.call.Call.Call}
use Rattle.dma_engine.specs.declared.call.Reply.TheVariants.{Done, Refused}
use Rattle.dma_engine.specs.Answer.{AreAnswers, answer, answers, checkpointed, stores_base, unless}
use Rattle.dma_engine.specs.{declared.fault.EngineFault.EngineFault, declared.fault.EngineFault.TheVariants.NoMemory, View.View}
use Rattle.dma_engine.proofs.JoinedCalls.{answer_is_one, answers_are_answers, answers_unless_no_memory}
use Rattle.dma_script.specs.{Statements.run_script_of, declared.statements.RunScript.RunScript}
use Rattle.dma_commands.specs.Run.{Answered, printed}
use Rattle.dma_commands.specs.Laws.{HaveMemory, LinesPrintAnswers, ScriptsPrintAnswers, ScriptsPrintReplies, calls_of, opening_of, printed_from, script_calls}
use Rattle.dma_commands.proofs.{ScriptCalls.groups_are, ScriptCalls.line_is, ScriptSubmits.calls_made_law, ScriptsWithin.can_be_made}
use Rattle.dma_commands.proofs.{ScriptsWithin.script_within}

-- ---- an answer with enough memory isn't out of memory

-- a checkpoint that is out of memory stores no base
no_base_by : (v : View) (fault : Option EngineFault) → (unless fault v (Done, checkpointed v)).0 ≡ Refused NoMemory → is_none fault ≡ false
no_base_by v fault h = grind (arith)

no_base : (v : View) (call : Call) → (answer v call).0 ≡ Refused NoMemory → stores_base v call ≡ false
no_base v call h = grind (arith, no_base_by)

answer_served : (v : View) (call : Call) → (answer v call).0 ≢ Refused NoMemory
answer_served v call is = grind (arith, answer_is_one, no_base, le-ltb)

-- and so of calls in order
have_memory : (v : View) (cs : List Call) → HaveMemory (answers v cs).0
have_memory v [] k d less = absurd (omega (arith, less))
have_memory v (call ∷ cs) zero d less = answer_served v call
have_memory v (call ∷ cs) (suc k) d less = have_memory (answer v call).1 cs k d (omega (arith, less))

-- ---- lines and scripts

pub lines_print_answers : LinesPrintAnswers
lines_print_answers v line =
    let own = calls_of v line in
    let a = answers v own in
    let is = line_is v line in (
      a.0,
      have_memory v own,
      subst (λ (w : View). AreAnswers v own a.0 w) (sym (ap (λ (x : Answered). x.1) is)) (answers_are_answers v own),
      ap (λ (x : Answered). x.0) is,
    )

-- what is printed, by the answers with enough memory
printed_is : (input : List ℕ) (script : RunScript) → run_script_of input ≡ Ok script
    → printed input ≡ printed_from script (answers (opening_of script) (script_calls script)).0
printed_is input script read = grind (arith, groups_are)

pub scripts_print_answers : ScriptsPrintAnswers
scripts_print_answers input script read =
    let within = script_within input script read in
    let v = opening_of script in
    let cs = script_calls script in
    let a = answers v cs in (
      can_be_made script within.0,
      calls_made_law v script.statements within.1,
      (a.0, a.1, have_memory v cs, answers_are_answers v cs, printed_is input script read),
    )

pub scripts_print_replies : ScriptsPrintReplies
scripts_print_replies input script replies left read served made = grind (arith, printed_is, answers_unless_no_memory)
