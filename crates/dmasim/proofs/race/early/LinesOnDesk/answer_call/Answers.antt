use Rattle.std.proofs.Common.{ap, refl}
use Rattle.dma_script.specs.declared.statements.Statement.TheVariants.{Call}
use Rattle.dmasim.proofs.RaceLemmas.{line_ran}
use Rattle.dmasim.proofs.race.early.LinesOnDesk.answer_call.Goals as goal

pub returns-in-Terminate-clause-line : goal.returns-in-Terminate-clause-line
returns-in-Terminate-clause-line g c =
    line_ran (λ v. v) c.args.self.now.desk.engine.view _ (Call c.args.call) _ c.answer_terminate.result _ _ (ap (λ call. Call call) c.in-Terminate.is)
    c.answer_terminate.ensures.line

pub returns-in_default : goal.returns-in_default
returns-in_default g c = record {
  line = line_ran (λ v. v) c.args.self.now.desk.engine.view _ (Call c.args.call) (Call c.args.call) c.answer_quiet.result _ _ refl c.answer_quiet.ensures;
  err = c.answer_quiet.ensures.err;
  ready = c.requires.ready;
}
