use Rattle.std.proofs.Common.{◌∙◌, ap, sym}
use Rattle.dma_script.specs.declared.statements.Statement.TheVariants.{Call, Submit}
use Rattle.dmasim.proofs.RaceLemmas.{call_ran, line_ran}
use Rattle.dmasim.proofs.race.early.LinesOnDeskInterpreter.interpret.Goals as goal

pub returns-in-Submit-clause-ok : goal.returns-in-Submit-clause-ok
returns-in-Submit-clause-ok g c =
    line_ran (λ lines. lines.desk.engine.view) c.args.self.now _ c.args.line _ c.answer_submit.result _ _
    (c.in-Submit.is ∙ ap (λ transfer. Submit c.in-Submit.ch transfer) (sym c.into_inner.ensures)) c.answer_submit.ensures.line
