use Rattle.dma_device.proofs.AnyRegisters.{any_dmago, any_dmago_refused}
use Rattle.dma_device.proofs.laws.a_dmago_from_any_registers.Goals as goal

pub returns : goal.returns
returns c = record { explained = any_dmago; refused = any_dmago_refused }
