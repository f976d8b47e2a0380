use Rattle.dma_mem.specs.declared.call.Call.TheVariants.{Pause}
use Rattle.dma_work.proofs.Desks.{kept_quiet}
use Rattle.dma_work.proofs.desk.Desk.pause.Goals as goal

pub invariant_of-self : goal.invariant_of-self
invariant_of-self g c = kept_quiet c.self.invariant c.pause.new.self (Pause c.args.ch) _ tt c.pause.ensures.answer
