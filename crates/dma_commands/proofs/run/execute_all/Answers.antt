use Rattle.std.proofs.Common.{◌≡◌, [], ◌∷◌, ◌++◌, ◌∙◌, ap, arith, length, refl, subst, sym}
use Rattle.std.specs.Vec.Iter.{into_iter_items}
use Rattle.std.proofs.lemmas.Result.{on_err_weaker, on_ok_weaker}
use Rattle.dma_commands.specs.inner.Listed.{Reaches}
use Rattle.dma_commands.proofs.ListLemmas.{nothing_left, on_err_always, reaches_after, reaches_all, reaches_list, stops_after, stops_before}
use Rattle.dma_commands.proofs.run.execute_all.Goals as goal

pub loop-line-preserved : goal.loop-line-preserved
loop-line-preserved c =
    let v = c.args.engine.now.view in
    let u = c.loop-line.engine.view in
    let all = c.args.statements in
    let old = c.args.out.now.items in
    let out = c.loop-line.out.items in
    let list = c.loop-line.list in
    let left = into_iter_items c.next.new.self in
    let before = subst (λ l. Reaches v all old u (list ++ l) out) c.in-Some.ensures.items c.loop-line.invariant.reached in
    record {
      reached = reaches_after v u c.take.new.engine.view all (list ++ c.in-Some.line ∷ left) (c.take.new.self ++ left) old out c.take.new.out.items before
          (c.in_ok-take.ensures.ok left);
      len = omega (arith, c.loop-line.invariant.len, c.in-Some.ensures.cases.1, ap length c.in-Some.ensures.items);
    }

pub returns-in_err-take-clause-err : goal.returns-in_err-take-clause-err
returns-in_err-take-clause-err c =
    let v = c.args.engine.now.view in
    let u = c.loop-line.engine.view in
    let all = c.args.statements in
    let old = c.args.out.now.items in
    let out = c.loop-line.out.items in
    let list = c.loop-line.list in
    let left = into_iter_items c.next.new.self in
    let before = subst (λ l. Reaches v all old u (list ++ l) out) c.in-Some.ensures.items c.loop-line.invariant.reached in
    on_err_always _ c.from_residual.result
    (stops_after v u all (list ++ c.in-Some.line ∷ left) old out c.take.new.out.items before (c.in_err-take.ensures.err left))

pub returns-clause-ok : goal.returns-clause-ok
returns-clause-ok c =
    let v = c.args.engine.now.view in
    let u = c.loop-line.engine.view in
    let w = c.execute.new.engine.view in
    let all = c.args.statements in
    let old = c.args.out.now.items in
    let out = c.loop-line.out.items in
    let new = c.execute.new.out.items in
    let list = c.loop-line.list in
    let none : into_iter_items c.loop-line.left ≡ [] = nothing_left (into_iter_items c.loop-line.left) (sym c.loop-line.invariant.len ∙ c.in_default.ensures.cases.0) in
    let before = subst (λ l. Reaches v all old u (list ++ l) out) none c.loop-line.invariant.reached in
    on_ok_weaker c.execute.result
    (λ h. reaches_all v w all [] old new (reaches_after v u w all (list ++ []) [] old out new before (reaches_list u w list [] out new h)) refl)
    c.execute.ensures.ok

pub returns-clause-err : goal.returns-clause-err
returns-clause-err c =
    let v = c.args.engine.now.view in
    let u = c.loop-line.engine.view in
    let all = c.args.statements in
    let old = c.args.out.now.items in
    let out = c.loop-line.out.items in
    let new = c.execute.new.out.items in
    let list = c.loop-line.list in
    let none : into_iter_items c.loop-line.left ≡ [] = nothing_left (into_iter_items c.loop-line.left) (sym c.loop-line.invariant.len ∙ c.in_default.ensures.cases.0) in
    let before = subst (λ l. Reaches v all old u (list ++ l) out) none c.loop-line.invariant.reached in
    on_err_weaker c.execute.result (λ h. stops_after v u all (list ++ []) old out new before (stops_before u list [] out new h)) c.execute.ensures.err
