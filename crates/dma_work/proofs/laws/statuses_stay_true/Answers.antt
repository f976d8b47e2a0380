use Rattle.dma_work.proofs.StatusLaws.{stays_known, stays_complete, closed_is_complete}
use Rattle.dma_work.proofs.laws.statuses_stay_true.Goals as goal

pub returns : goal.returns
returns c = record { known = stays_known; complete = stays_complete; closed = closed_is_complete }
