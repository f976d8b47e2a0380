use Rattle.std.proofs.Common.{◌++◌, ◌∷◌}
use Rattle.dma_script.specs.declared.statements.Statement.TheVariants as statements
use Rattle.dma_commands.proofs.ListLemmas.{on_err_always, stops_after, stops_before, stops_pushed}
use Rattle.dma_commands.proofs.run.call_list.CallList.take_call.Goals as goal

pub returns-in_err-make_room-clause-err : goal.returns-in_err-make_room-clause-err
returns-in_err-make_room-clause-err c =
    on_err_always _ c.from_residual.result
    (λ behind. stops_before c.args.engine.now.view c.args.self.now (statements.Call c.args.call ∷ behind) c.args.out.now.items c.make_room.new.out.items
    c.in_err-make_room.ensures.err)

pub returns-clause-err : goal.returns-clause-err
returns-clause-err c =
    let line = statements.Call c.args.call in
    let list = c.args.self.now in
    let mid = c.make_room.new.self in
    let out = c.make_room.new.out.items in
    on_err_always _ c.push.result
    (λ behind. stops_after c.args.engine.now.view c.make_room.new.engine.view (list ++ line ∷ behind) (mid ++ line ∷ behind) c.args.out.now.items out out
    (c.in_ok-make_room.ensures.ok (line ∷ behind)) (stops_pushed c.make_room.new.engine.view mid line behind out))
