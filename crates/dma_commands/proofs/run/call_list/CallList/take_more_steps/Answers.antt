use Rattle.std.proofs.Common.{◌++◌, ◌∷◌}
use Rattle.std.proofs.lemmas.Result.{on_err_weaker, on_ok_weaker}
use Rattle.dma_script.specs.declared.statements.Statement.TheVariants as statements
use Rattle.dma_commands.proofs.ListLemmas.{on_err_always, reaches_alone, stops_after, stops_alone, stops_before, stops_pushed}
use Rattle.dma_commands.proofs.run.call_list.CallList.take_more_steps.Goals as goal

pub returns-in_err-execute-clause-err : goal.returns-in_err-execute-clause-err
returns-in_err-execute-clause-err c =
    on_err_always _ c.from_residual.result
    (λ behind. stops_before c.args.engine.now.view c.args.self.now (statements.Step c.args.ch c.args.count ∷ behind) c.args.out.now.items c.execute.new.out.items c.in_err-execute.ensures.err)

pub returns-then-count-gt-MAX_CALLS-clause-ok : goal.returns-then-count-gt-MAX_CALLS-clause-ok
returns-then-count-gt-MAX_CALLS-clause-ok c =
    let v = c.args.engine.now.view in
    let u = c.execute.new.engine.view in
    let w = c.answer_steps.new.engine.view in
    let list = c.args.self.now in
    let line = statements.Step c.args.ch c.args.count in
    let out = c.args.out.now.items in
    let mid = c.execute.new.out.items in
    let new = c.answer_steps.new.out.items in
    on_ok_weaker c.answer_steps.result
    (λ h behind. reaches_alone v u w list c.execute.new.self line behind out mid new c.in_ok-execute.ensures.ok c.in_ok-execute.ensures.empty h.acts h.prints)
    c.answer_steps.ensures.ok

pub returns-then-count-gt-MAX_CALLS-clause-err : goal.returns-then-count-gt-MAX_CALLS-clause-err
returns-then-count-gt-MAX_CALLS-clause-err c =
    let v = c.args.engine.now.view in
    let u = c.execute.new.engine.view in
    let w = c.answer_steps.new.engine.view in
    let list = c.args.self.now in
    let line = statements.Step c.args.ch c.args.count in
    let out = c.args.out.now.items in
    let mid = c.execute.new.out.items in
    let new = c.answer_steps.new.out.items in
    on_err_weaker c.answer_steps.result (λ same behind. stops_alone v u list line behind out mid new c.in_ok-execute.ensures.ok same) c.answer_steps.ensures.err

pub returns-in_err-make_room-clause-err : goal.returns-in_err-make_room-clause-err
returns-in_err-make_room-clause-err c =
    on_err_always _ c.from_residual-in_err-make_room.result
    (λ behind. stops_before c.args.engine.now.view c.args.self.now (statements.Step c.args.ch c.args.count ∷ behind) c.args.out.now.items c.make_room.new.out.items
    c.in_err-make_room.ensures.err)

pub returns-clause-err : goal.returns-clause-err
returns-clause-err c =
    let line = statements.Step c.args.ch c.args.count in
    let list = c.args.self.now in
    let mid = c.make_room.new.self in
    let out = c.make_room.new.out.items in
    on_err_always _ c.push_steps.result
    (λ behind. stops_after c.args.engine.now.view c.make_room.new.engine.view (list ++ line ∷ behind) (mid ++ line ∷ behind) c.args.out.now.items out out
    (c.in_ok-make_room.ensures.ok (line ∷ behind)) (stops_pushed c.make_room.new.engine.view mid line behind out))
