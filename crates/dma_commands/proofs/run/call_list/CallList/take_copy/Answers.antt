use Rattle.std.proofs.Common.{◌∷◌}
use Rattle.std.proofs.lemmas.Result.{on_err_weaker, on_ok_weaker}
use Rattle.dma_script.specs.declared.statements.Statement.TheVariants as statements
use Rattle.dma_commands.proofs.ListLemmas.{on_err_always, reaches_alone, stops_alone, stops_before}
use Rattle.dma_commands.proofs.run.call_list.CallList.take_copy.Goals as goal

pub returns-in_err-execute-clause-err : goal.returns-in_err-execute-clause-err
returns-in_err-execute-clause-err c =
    on_err_always _ c.from_residual.result
    (λ behind. stops_before c.args.engine.now.view c.args.self.now (statements.Copy c.args.words ∷ behind) c.args.out.now.items c.execute.new.out.items c.in_err-execute.ensures.err)

pub returns-clause-ok : goal.returns-clause-ok
returns-clause-ok c =
    let v = c.args.engine.now.view in
    let u = c.execute.new.engine.view in
    let w = c.answer_copy.new.engine.view in
    let list = c.args.self.now in
    let line = statements.Copy c.args.words in
    let out = c.args.out.now.items in
    let mid = c.execute.new.out.items in
    let new = c.answer_copy.new.out.items in
    on_ok_weaker c.answer_copy.result
    (λ h behind. reaches_alone v u w list c.execute.new.self line behind out mid new c.in_ok-execute.ensures.ok c.in_ok-execute.ensures.empty h.acts h.prints)
    c.answer_copy.ensures.ok

pub returns-clause-err : goal.returns-clause-err
returns-clause-err c =
    let v = c.args.engine.now.view in
    let u = c.execute.new.engine.view in
    let w = c.answer_copy.new.engine.view in
    let list = c.args.self.now in
    let line = statements.Copy c.args.words in
    let out = c.args.out.now.items in
    let mid = c.execute.new.out.items in
    let new = c.answer_copy.new.out.items in
    on_err_weaker c.answer_copy.result (λ same behind. stops_alone v u list line behind out mid new c.in_ok-execute.ensures.ok same) c.answer_copy.ensures.err
