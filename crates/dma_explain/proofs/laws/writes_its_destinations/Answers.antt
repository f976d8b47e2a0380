use Rattle.dma_explain.proofs.CallStays.{load_executes, call_stays_in}
use Rattle.dma_explain.proofs.laws.writes_its_destinations.Goals as goal

pub returns : goal.returns
returns c = record { load = load_executes; call = call_stays_in }
