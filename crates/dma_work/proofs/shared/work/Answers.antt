use Rattle.dma_work.proofs.Turns.{took_at_any}
use Rattle.dma_work.proofs.shared.work.Goals as goal

pub returns : goal.returns
returns g c = took_at_any _ _ _ _ _ _ _ _ c.work_at.ensures
