use Rattle.dma_work.proofs.Turns.{took}
use Rattle.dma_work.proofs.worker.work_at.Goals as goal

pub returns : goal.returns
returns g c =
    let w = c.new-worker.ensures in
    let t = c.take_turns.ensures in
    let p = c.into_parts.ensures in
    rw (p.0, p.1, ← w.lender) (took _ _ _ _ _ _ _ w.tally t.worker t.taken t.acts)
