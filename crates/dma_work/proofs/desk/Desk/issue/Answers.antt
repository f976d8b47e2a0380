use Rattle.dma_mem.specs.declared.call.Call.TheVariants.{Issue}
use Rattle.dma_work.proofs.Desks.{kept_quiet}
use Rattle.dma_work.proofs.desk.Desk.issue.Goals as goal

pub invariant_of-self : goal.invariant_of-self
invariant_of-self g c = kept_quiet c.self.invariant c.issue.new.self (Issue c.args.ch) _ tt c.issue.ensures.answer
