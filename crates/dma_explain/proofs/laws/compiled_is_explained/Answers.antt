use Rattle.dma_explain.proofs.CompiledExplained.{compiled_events, compiled_explained, compiled_on_bus}
use Rattle.dma_explain.proofs.laws.compiled_is_explained.Goals as goal

pub returns-clause-ideal : goal.returns-clause-ideal
returns-clause-ideal c = compiled_explained

pub returns-clause-on_bus : goal.returns-clause-on_bus
returns-clause-on_bus c = compiled_on_bus

pub returns-clause-events : goal.returns-clause-events
returns-clause-events c = compiled_events
