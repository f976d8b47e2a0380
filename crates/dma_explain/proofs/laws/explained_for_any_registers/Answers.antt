use Rattle.dma_explain.proofs.AnyRegisters.{any_explained, any_narrower, any_refused}
use Rattle.dma_explain.proofs.laws.explained_for_any_registers.Goals as goal

pub returns : goal.returns
returns c = record { explained = any_explained; narrower = any_narrower; refused = any_refused }
