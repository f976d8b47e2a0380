use Rattle.dma_mem.specs.declared.call.Call.TheVariants.{Raise}
use Rattle.dma_work.proofs.Desks.{kept_quiet}
use Rattle.dma_work.proofs.desk.Desk.raise.Goals as goal

pub invariant_of-self : goal.invariant_of-self
invariant_of-self g c = kept_quiet c.self.invariant c.raise.new.self (Raise c.args.event) _ tt c.raise.ensures.answer
