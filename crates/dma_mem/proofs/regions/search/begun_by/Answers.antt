use Rattle.std.proofs.Common.{rules}
use Rattle.std.specs.Prelude.{nat_le}
use Rattle.std.proofs.{lemmas.Bool.leb-true, lemmas.Bool.leb-false, lemmas.List.Sorted.IsPartitionPoint-from_clause, lemmas.List.Sorted.IsPartitionedBy-leb}
use Rattle.dma_mem.specs.declared.regions.Region.{Region}
use Rattle.dma_mem.proofs.RegionSearch.{begin_rising}
use Rattle.dma_mem.proofs.regions.search.begun_by.Goals as goal

pub returns-clause-first : goal.returns-clause-first
returns-clause-first c =
    let rs = c.args.regions.now in
    let point =
    IsPartitionPoint-from_clause (λ (r : Region). nat_le r.addr c.args.addr) rs _ c.partition_point.ensures.partitioned
    (IsPartitionedBy-leb (λ (r : Region). r.addr) rs c.args.addr (begin_rising rs c.requires)) (λ a r q k. search rules) in
    (λ k d l m. leb-true _ _ (point.0 k d l m), λ k d l m. leb-false _ _ (point.1 k d l m))
