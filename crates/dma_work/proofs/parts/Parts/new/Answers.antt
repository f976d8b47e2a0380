use Rattle.std.proofs.Common.{◌≡◌, subst, sym}
use Rattle.std.specs.List.{All}
use Rattle.dma_work.specs.{Known.Known, Known.knows, Laws.AreCounts}
use Rattle.dma_work.proofs.parts.Parts.new.Goals as goal

pub returns-in-Ok-clause-readers : goal.returns-in-Ok-clause-readers
returns-in-Ok-clause-readers g c =
    let shown = c.in-Ok.publisher.shown in
    subst (λ ticks. All (λ (s : Known). s ≡ knows shown.base shown.log ticks) c.in-Ok.readers.items) c.in-Ok.ensures.shown.1 c.in-Ok.ensures.readers

pub invariant_of-result : goal.invariant_of-result
invariant_of-result g c = (
  c.in-Ok.ensures.shown.1,
  c.in-Ok.ensures.shown.0,
  c.in-Ok.ensures.rest.0,
  c.in-Ok.ensures.rest.1,
  subst AreCounts (sym c.in-Ok.ensures.shown.0) c.in-Ok.ensures.small,
)
