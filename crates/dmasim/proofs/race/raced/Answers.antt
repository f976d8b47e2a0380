use Rattle.std.proofs.Common.{subst, sym}
use Rattle.std.proofs.lemmas.Result.{IfOk-weaker, on_err_weaker}
use Rattle.dma_script.specs.Interpreted.{PrintsLines}
use Rattle.dma_commands.specs.Raced.{EarlyPrints}
use Rattle.dma_work.specs.Desk.{DeskState}
use Rattle.dmasim.specs.inner.RaceSteps.{PrintsFirst}
use Rattle.dmasim.proofs.RaceLemmas.{all_then_none}
use Rattle.dmasim.proofs.race.raced.Goals as goal

pub returns-in-Err-clause-err : goal.returns-in-Err-clause-err
returns-in-Err-clause-err g c =
    let early = c.run_early_statements-desk in
    subst (λ (d : DeskState). PrintsFirst d.engine.view c.args.lines c.args.out.now.items early.new.out.items) c.new.ensures
    (rw c.in-Err.is at early.ensures.err)

pub returns-clause-ok : goal.returns-clause-ok
returns-clause-ok g c =
    let old = c.args.out.now.items in
    let early = c.run_early_statements-desk in
    let mid = early.new.out.items in
    let left = early.result.0.engine.view in
    let lines = subst (λ (d : DeskState). PrintsLines EarlyPrints d.engine.view c.args.lines left old mid) c.new.ensures
    (rw c.in_default.is at early.ensures.ok) in
    IfOk-weaker c.go.result _ _ (λ engine totals. record { between = left; text = mid; lines = lines; totals = totals }) c.go.ensures.ok

pub returns-clause-err : goal.returns-clause-err
returns-clause-err g c =
    let lines = c.args.lines in
    let old = c.args.out.now.items in
    let early = c.run_early_statements-desk in
    let mid = early.new.out.items in
    let left = early.result.0.engine.view in
    let start = c.args.parts.engine.view in
    let all = subst (λ (d : DeskState). PrintsLines EarlyPrints d.engine.view lines left old mid) c.new.ensures (rw c.in_default.is at early.ensures.ok) in
    on_err_weaker c.go.result (λ same. subst (PrintsFirst start lines old) (sym same) (all_then_none start lines left old mid all)) c.go.ensures.err
