use Rattle.dma_explain.proofs.NarrowerBus.{events_on_widths, explained_narrower, traced_on_widths}
use Rattle.dma_explain.proofs.laws.narrower_is_explained.Goals as goal

pub returns-clause-explained : goal.returns-clause-explained
returns-clause-explained c = explained_narrower

pub returns-clause-traced : goal.returns-clause-traced
returns-clause-traced c = traced_on_widths

pub returns-clause-events : goal.returns-clause-events
returns-clause-events c = events_on_widths
