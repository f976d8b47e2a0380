use Rattle.dma_mem.specs.declared.call.Call.TheVariants.{Mark}
use Rattle.dma_work.proofs.Desks.{kept_quiet}
use Rattle.dma_work.proofs.desk.Desk.mark.Goals as goal

pub invariant_of-self : goal.invariant_of-self
invariant_of-self g c = kept_quiet c.self.invariant c.mark.new.self (Mark c.args.kind c.args.segment) _ tt c.mark.ensures.answer
