use Rattle.std.proofs.Common.{refl}
use Rattle.dma_commands.specs.Planned.{plan_printed}
use Rattle.dma_commands.proofs.PlanLemmas.{plan_refused}
use Rattle.dma_commands.proofs.plan.PlanCommand.answer.Goals as goal

pub returns-in-Err : goal.returns-in-Err
returns-in-Err c =
    record {
      printed = plan_printed c.args.input.now;
      allowed = refl;
      answers =
          plan_refused c.args.input.now c.in-Err.error c.refuse.result _ _ c.in-Err.ensures c.refuse.ensures.answer c.refuse.ensures.printed;
    }
