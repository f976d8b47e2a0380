use Rattle.dma_work.proofs.Desks.{kept_checkpoint}
use Rattle.dma_work.proofs.desk.Desk.checkpoint.Goals as goal

pub invariant_of-self-2 : goal.invariant_of-self-2
invariant_of-self-2 g c =
    kept_checkpoint c.self.invariant c.checkpoint.new.self c.begin_again.new.self c.facts.ensures.sound c.in_ok-checkpoint.ensures.answer c.begin_again.ensures
