use Rattle.std.proofs.Common.{◌∙◌, sym}
use Rattle.dma_why.proofs.WaitLemmas.{waits_for}
use Rattle.dma_why.proofs.waits.event_wait.Goals as goal

pub returns-then-not-are_on : goal.returns-then-not-are_on
returns-then-not-are_on c =
    rw (sym c.are_on.ensures ∙ c.if-not-are_on.true) at (waits_for c.args.ch c.args.event _ _ c.in_ok-by.ensures.value)

pub returns : goal.returns
returns c = rw (sym c.are_on.ensures ∙ c.if-not-are_on.false) at (waits_for c.args.ch c.args.event _ _ c.in_ok-by.ensures.value)
