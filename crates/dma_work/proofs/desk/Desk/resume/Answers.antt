use Rattle.dma_mem.specs.declared.call.Call.TheVariants.{Resume}
use Rattle.dma_work.proofs.Desks.{kept_quiet}
use Rattle.dma_work.proofs.desk.Desk.resume.Goals as goal

pub invariant_of-self : goal.invariant_of-self
invariant_of-self g c = kept_quiet c.self.invariant c.resume.new.self (Resume c.args.ch) _ tt c.resume.ensures.answer
