use Rattle.std.proofs.Common.{rules}
use Rattle.std.proofs.lemmas.List.Sorted.{IsNonDecreasingBy-from_sort_by_key}
use Rattle.dma_mem.specs.declared.segment.Segment.{Segment}
use Rattle.dma_mem.proofs.ordered.sort_by_address.Goals as goal

pub returns-clause-rising : goal.returns-clause-rising
returns-clause-rising c = IsNonDecreasingBy-from_sort_by_key (λ (s : Segment). s.addr) _ c.sort_unstable_by_key.ensures.sorted (λ a r q k. search rules)
