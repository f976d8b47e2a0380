use Rattle.dma_mem.specs.declared.call.Call.TheVariants.{Write}
use Rattle.dma_work.proofs.Desks.{kept_quiet}
use Rattle.dma_work.proofs.desk.Desk.write.Goals as goal

pub invariant_of-self : goal.invariant_of-self
invariant_of-self g c = kept_quiet c.self.invariant c.write.new.self (Write c.args.addr c.args.bytes.now) _ tt c.write.ensures.answer
