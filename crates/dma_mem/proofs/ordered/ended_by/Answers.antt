use Rattle.std.proofs.Common.{◌+◌, rules}
use Rattle.std.specs.Prelude.{nat_le}
use Rattle.std.proofs.{lemmas.Bool.leb-true, lemmas.Bool.leb-false, lemmas.List.Sorted.IsPartitionPoint-from_clause, lemmas.List.Sorted.IsPartitionedBy-leb}
use Rattle.dma_mem.specs.declared.segment.Segment.{Segment}
use Rattle.dma_mem.proofs.ordered.ended_by.Goals as goal

pub returns-clause-first : goal.returns-clause-first
returns-clause-first c =
    let point =
    IsPartitionPoint-from_clause (λ (r : Segment). nat_le (r.addr + r.len) c.args.end) c.args.ranges.now _ c.partition_point.ensures.partitioned
    (IsPartitionedBy-leb (λ (r : Segment). r.addr + r.len) c.args.ranges.now c.args.end c.requires) (λ a r q k. search rules) in
    (λ k d l m. leb-true _ _ (point.0 k d l m), λ k d l m. leb-false _ _ (point.1 k d l m))
