use Rattle.dma_mem.specs.declared.call.Call.TheVariants.{Unmark}
use Rattle.dma_work.proofs.Desks.{kept_quiet}
use Rattle.dma_work.proofs.desk.Desk.unmark.Goals as goal

pub invariant_of-self : goal.invariant_of-self
invariant_of-self g c = kept_quiet c.self.invariant c.unmark.new.self Unmark _ tt c.unmark.ensures.answer
