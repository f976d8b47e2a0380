-- Refusals that aren't out of memory.
use Rattle.std.proofs.Common.{◌≢◌, ap}
use Rattle.dma_engine.specs.{declared.call.Reply.Reply, declared.call.Reply.TheVariants.Refused, declared.fault.EngineFault.EngineFault}
use Rattle.dma_engine.specs.{declared.fault.EngineFault.TheVariants.NoMemory}

abbrev fault_of_law : Reply → EngineFault
fault_of_law (Refused fault) = fault
fault_of_law _ = NoMemory

-- a refusal of a call that isn't out of memory
pub refused_served : (fault : EngineFault) → fault ≢ NoMemory → Refused fault ≢ Refused NoMemory
refused_served fault other = λ is. other (ap fault_of_law is)
