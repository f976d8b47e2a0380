use Rattle.dma_explain.proofs.SinceLoads.{copies_since_load, done_grows}
use Rattle.dma_explain.proofs.laws.copies_since_load.Goals as goal

pub returns : goal.returns
returns c = record { copies = copies_since_load; grows = done_grows }
