use Rattle.dma_mem.specs.declared.call.Call.TheVariants.{Read}
use Rattle.dma_work.proofs.Desks.{kept_quiet}
use Rattle.dma_work.proofs.desk.Desk.read.Goals as goal

pub invariant_of-self : goal.invariant_of-self
invariant_of-self g c = kept_quiet c.self.invariant c.read.new.self (Read c.args.addr c.args.len) _ tt c.read.ensures.answer
