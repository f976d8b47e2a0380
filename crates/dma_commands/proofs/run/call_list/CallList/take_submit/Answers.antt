use Rattle.std.proofs.Common.{◌++◌, ◌∷◌}
use Rattle.std.proofs.lemmas.Result.{on_err_weaker, on_ok_weaker}
use Rattle.dma_mem.specs.{Refusals.refusal_of, declared.call.Call.TheVariants.Submit}
use Rattle.dma_script.specs.declared.statements.Statement.TheVariants as statements
use Rattle.dma_commands.specs.{Run.call_answer, Transfers.transfer_of}
use Rattle.dma_commands.proofs.ListLemmas.{on_err_always, reaches_alike, reaches_alone, stops_alike, stops_alone, stops_before, submit_alike}
use Rattle.dma_commands.proofs.RunLemmas.{unfit_runs}
use Rattle.dma_commands.proofs.run.call_list.CallList.take_submit.Goals as goal

pub returns-in_err-execute-in-Err-clause-err : goal.returns-in_err-execute-in-Err-clause-err
returns-in_err-execute-in-Err-clause-err c =
    on_err_always _ c.from_residual.result
    (λ behind. stops_before c.args.engine.now.view c.args.self.now (statements.Submit c.args.ch c.args.words ∷ behind) c.args.out.now.items
    c.execute.new.out.items c.in_err-execute-in-Err.ensures.err)

pub returns-in-Ok-clause-ok : goal.returns-in-Ok-clause-ok
returns-in-Ok-clause-ok c =
    let ch = c.args.ch in
    let words = c.args.words in
    let t = c.in-Ok.transfer in
    on_ok_weaker c.take_call.result
    (λ h behind. reaches_alike c.args.engine.now.view c.args.self.now behind (statements.Submit ch words) (statements.Call (Submit ch t)) c.args.out.now.items
    c.take_call.new.engine.view (c.take_call.new.self ++ behind) c.take_call.new.out.items
    (submit_alike ch words t c.in-Ok.ensures.ok c.in-Ok.ensures.accepted) (h behind))
    c.take_call.ensures.ok

pub returns-in-Ok-clause-err : goal.returns-in-Ok-clause-err
returns-in-Ok-clause-err c =
    let ch = c.args.ch in
    let words = c.args.words in
    let t = c.in-Ok.transfer in
    on_err_weaker c.take_call.result
    (λ h behind. stops_alike c.args.engine.now.view c.args.self.now behind (statements.Submit ch words) (statements.Call (Submit ch t)) c.args.out.now.items
    c.take_call.new.out.items (submit_alike ch words t c.in-Ok.ensures.ok c.in-Ok.ensures.accepted) (h behind))
    c.take_call.ensures.err

pub returns-in_ok-execute-in-Err-clause-ok : goal.returns-in_ok-execute-in-Err-clause-ok
returns-in_ok-execute-in-Err-clause-ok c =
    let v = c.args.engine.now.view in
    let u = c.execute.new.engine.view in
    let list = c.args.self.now in
    let line = statements.Submit c.args.ch c.args.words in
    let out = c.args.out.now.items in
    let mid = c.execute.new.out.items in
    let new = c.print_line.new.out.items in
    let runs = unfit_runs u (refusal_of (transfer_of c.args.words)) c.in-Err.fault (call_answer u (Submit c.args.ch (transfer_of c.args.words)))
    c.print_line.result mid new c.in-Err.ensures.err c.print_line.ensures.ok c.print_line.ensures.err in
    on_ok_weaker c.print_line.result
    (λ h behind. reaches_alone v u u list c.execute.new.self line behind out mid new c.in_ok-execute-in-Err.ensures.ok c.in_ok-execute-in-Err.ensures.empty
    h.acts h.prints) runs.ok

pub returns-in_ok-execute-in-Err-clause-err : goal.returns-in_ok-execute-in-Err-clause-err
returns-in_ok-execute-in-Err-clause-err c =
    on_err_weaker c.print_line.result
    (λ same behind. stops_alone c.args.engine.now.view c.execute.new.engine.view c.args.self.now (statements.Submit c.args.ch c.args.words) behind
    c.args.out.now.items c.execute.new.out.items c.print_line.new.out.items c.in_ok-execute-in-Err.ensures.ok same) c.print_line.ensures.err
