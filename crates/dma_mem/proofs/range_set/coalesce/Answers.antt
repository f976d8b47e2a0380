use Rattle.std.proofs.Common.{arith}
use Rattle.dma_mem.proofs.RangeSets.{coalesces, joins_at, rising_from, spread_from}
use Rattle.dma_mem.proofs.range_set.coalesce.Goals as goal

pub returns : goal.returns
returns c =
    let joined =
    coalesces _ (λ s x k b t x' k' h. joins_at _ _ _ _ x k x' k' b h.shows.0 h.shows.1 h.leaves.0 h.leaves.1 h.called.met) _ _ _ c.dedup_by.ensures.filtered
    (rising_from 0 _ (λ k d l. omega arith) c.requires.filled c.requires.within c.requires.rising) in
    record { same = joined.same; coalesced = (spread_from 0 _ joined.spaced).coalesced }
