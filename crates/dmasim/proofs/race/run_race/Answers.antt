use Rattle.std.proofs.Common.{◌≡◌, codes, refl, subst, rules}
use Rattle.dma_commands.proofs.RunLemmas.{answers_memory}
use Rattle.dma_commands.specs.Raced.{first_view, no_reader, raced_refused}
use Rattle.dmasim.specs.inner.RaceSteps.{AreJobs, PrintsFirst, PrintsGo}
use Rattle.dmasim.proofs.RaceLemmas.{first_answer, none_answer, whole_answer}
use Rattle.dmasim.proofs.race.run_race.Goals as goal

pub returns-in_err-rota : goal.returns-in_err-rota
returns-in_err-rota g c = none_answer c.args.script c.from_residual.result _ _ c.from_residual.ensures.0 refl

pub returns-in_err-parts : goal.returns-in_err-parts
returns-in_err-parts g c = none_answer c.args.script c.from_residual-in_err-parts.result _ _ c.from_residual-in_err-parts.ensures.0 refl

pub returns-in_default : goal.returns-in_default
returns-in_default g c =
    record { printed = raced_refused (codes "NoReader"); allowed = no_reader refl; answers = answers_memory _ 1 c.refuse.result _ _ c.refuse.ensures.answer }

pub returns-in_err-engine : goal.returns-in_err-engine
returns-in_err-engine g c =
    let script = c.args.script in
    let old = c.args.out.now.items in
    let new = c.raced.new.out.items in
    let is : c.in-Some.parts.engine.view ≡ first_view script = search rules in
    first_answer script c.from_residual-in_err-engine.result old new c.from_residual-in_err-engine.ensures.0
    (subst (λ v. PrintsFirst v script.before.statements old new) is c.in_err-engine.ensures.err)

pub returns : goal.returns
returns g c =
    let script = c.args.script in
    let old = c.args.out.now.items in
    let mid = c.raced.new.out.items in
    let jobs : AreJobs script.jobs c.in_ok-rota.rota = search rules in
    let is : c.in-Some.parts.engine.view ≡ first_view script = search rules in
    whole_answer script c.run_statements.result old c.run_statements.new.out.items c.in_ok-rota.rota c.in_ok-engine.engine.view mid jobs
    (subst (λ u. PrintsGo u script.before.statements c.in_ok-rota.rota c.in_ok-engine.engine.view old mid) is c.in_ok-engine.ensures.ok)
    c.run_statements.ensures
