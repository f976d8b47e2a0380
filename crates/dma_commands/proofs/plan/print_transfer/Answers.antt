use Rattle.dma_mem.specs.Refusals.{refusal_of}
use Rattle.dma_commands.specs.Transfers.{transfer_of}
use Rattle.dma_commands.proofs.{PlanLemmas.transfer_printed_some, RunLemmas.answers_none}
use Rattle.dma_commands.proofs.plan.print_transfer.Goals as goal

pub returns-in_err-print-in-Ok : goal.returns-in_err-print-in-Ok
returns-in_err-print-in-Ok c =
    let line = c.args.line in
    answers_none _ c.from_residual.result _ _ c.from_residual.ensures.0 (transfer_printed_some line (refusal_of (transfer_of line.transfer)))
    c.in_err-print-in-Ok.ensures.err
