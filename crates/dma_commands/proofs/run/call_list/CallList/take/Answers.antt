use Rattle.dma_commands.proofs.ListLemmas.{on_err_always, stops_pushed}
use Rattle.dma_commands.proofs.run.call_list.CallList.take.Goals as goal

pub returns-in_err-call-in-Call-clause-err : goal.returns-in_err-call-in-Call-clause-err
returns-in_err-call-in-Call-clause-err c =
    on_err_always _ c.from_residual.result (λ behind. stops_pushed c.args.engine.now.view c.args.self.now c.args.line behind c.args.out.now.items)
