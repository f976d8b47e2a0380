use Rattle.std.proofs.Common.{nat_lt, rules}
use Rattle.std.proofs.{lemmas.Bool.ltb-true, lemmas.Bool.ltb-false, lemmas.List.Sorted.IsPartitionPoint-from_clause, lemmas.List.Sorted.IsPartitionedBy-ltb}
use Rattle.dma_mem.specs.declared.segment.Segment.{Segment}
use Rattle.dma_mem.proofs.ordered.begun_below.Goals as goal

pub returns-clause-first : goal.returns-clause-first
returns-clause-first c =
    let point =
    IsPartitionPoint-from_clause (λ (r : Segment). nat_lt r.addr c.args.addr) c.args.ranges.now _ c.partition_point.ensures.partitioned
    (IsPartitionedBy-ltb (λ (r : Segment). r.addr) c.args.ranges.now c.args.addr c.requires) (λ a r q k. search rules) in
    (λ k d l m. ltb-true _ _ (point.0 k d l m), λ k d l m. ltb-false _ _ (point.1 k d l m))
