use Rattle.std.proofs.Common.{[], ◌∷◌, ◌++◌, refl, subst}
use Rattle.std.proofs.lemmas.Result.{on_err_weaker, on_ok_weaker}
use Rattle.dma_io.specs.Command.{AppendsGroups}
use Rattle.dma_commands.specs.{Run.lines_answered, inner.Listed.Reaches}
use Rattle.dma_commands.proofs.ListLemmas.{on_err_always, one_line_left, one_line_stops, reaches_after, reaches_all, reaches_list, stops_after, stops_before}
use Rattle.dma_commands.proofs.run.run_line.Goals as goal

pub returns-in_err-take-clause-err : goal.returns-in_err-take-clause-err
returns-in_err-take-clause-err c =
    let v = c.args.engine.now.view in
    let line = c.args.line in
    let out = c.args.out.now.items in
    let mid = c.take.new.out.items in
    on_err_always _ c.from_residual.result
    (one_line_stops v line out mid
    (subst (λ l. AppendsGroups (lines_answered v (l ++ line ∷ [])) out mid) c.new-list.ensures (c.in_err-take.ensures.err [])))

pub returns-clause-left : goal.returns-clause-left
returns-clause-left c =
    let v = c.args.engine.now.view in
    let u = c.take.new.engine.view in
    let line = c.args.line in
    let list = c.take.new.self in
    let out = c.args.out.now.items in
    let mid = c.take.new.out.items in
    let first = subst (λ l. Reaches v (l ++ line ∷ []) out u (list ++ []) mid) c.new-list.ensures (c.in_ok-take.ensures.ok []) in
    let w = c.execute.new.engine.view in
    let new = c.execute.new.out.items in
    on_ok_weaker c.execute.result
    (λ h. (one_line_left v w line out new (reaches_all v w (line ∷ []) [] out new
    (reaches_after v u w (line ∷ []) (list ++ []) [] out mid new first (reaches_list u w list [] mid new h)) refl)).0)
    c.execute.ensures.ok

pub returns-clause-text : goal.returns-clause-text
returns-clause-text c =
    let v = c.args.engine.now.view in
    let u = c.take.new.engine.view in
    let line = c.args.line in
    let list = c.take.new.self in
    let out = c.args.out.now.items in
    let mid = c.take.new.out.items in
    let first = subst (λ l. Reaches v (l ++ line ∷ []) out u (list ++ []) mid) c.new-list.ensures (c.in_ok-take.ensures.ok []) in
    let w = c.execute.new.engine.view in
    let new = c.execute.new.out.items in
    on_ok_weaker c.execute.result
    (λ h. (one_line_left v w line out new (reaches_all v w (line ∷ []) [] out new
    (reaches_after v u w (line ∷ []) (list ++ []) [] out mid new first (reaches_list u w list [] mid new h)) refl)).1)
    c.execute.ensures.ok

pub returns-clause-err : goal.returns-clause-err
returns-clause-err c =
    let v = c.args.engine.now.view in
    let u = c.take.new.engine.view in
    let line = c.args.line in
    let list = c.take.new.self in
    let out = c.args.out.now.items in
    let mid = c.take.new.out.items in
    let first = subst (λ l. Reaches v (l ++ line ∷ []) out u (list ++ []) mid) c.new-list.ensures (c.in_ok-take.ensures.ok []) in
    let new = c.execute.new.out.items in
    on_err_weaker c.execute.result
    (λ h. one_line_stops v line out new (stops_after v u (line ∷ []) (list ++ []) out mid new first (stops_before u list [] mid new h)))
    c.execute.ensures.err
