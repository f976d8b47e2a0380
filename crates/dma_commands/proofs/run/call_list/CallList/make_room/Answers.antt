use Rattle.std.proofs.Common.{◌++◌, subst, sym}
use Rattle.dma_commands.specs.inner.Listed.{Reaches}
use Rattle.dma_commands.proofs.ListLemmas.{reaches_list}
use Rattle.dma_commands.proofs.run.call_list.CallList.make_room.Goals as goal

pub returns-clause-ok : goal.returns-clause-ok
returns-clause-ok c = λ behind.
    let v = c.args.engine.now.view in
    let w = c.execute.new.engine.view in
    let list = c.has_room.new.self in
    let out = c.args.out.now.items in
    let new = c.execute.new.out.items in
    subst (λ l. Reaches v (l ++ behind) out w (c.execute.new.self ++ behind) new) c.has_room.ensures
    (subst (λ l. Reaches v (list ++ behind) out w (l ++ behind) new) (sym c.in_ok-execute.ensures.empty)
    (reaches_list v w list behind out new c.in_ok-execute.ensures.ok))
