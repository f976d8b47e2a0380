use Rattle.std.proofs.Common.{ap, ◌∙◌}
use Rattle.dma_mem.specs.{Places.places, Places.share}
use Rattle.dma_mem.proofs.{SharedPlaces.share_each}
use Rattle.dma_mem.proofs.range_set.RangeSet.meets_any.Goals as goal

pub returns : goal.returns
returns c =
    c.any_meets_ordered.ensures
    ∙ share_each c.args.segments.now (places c.ranges-2.result.now)
    ∙ ap (λ ranges. share (places c.args.segments.now) (places ranges)) c.ranges-2.ensures.ranges
