use Rattle.std.proofs.Common.{List, ℕ, [], length, get_or, ap, arith}
use Rattle.std.proofs.lemmas.List.{length-append}
use Rattle.dma_mem.proofs.ChunkTables.{none_more}
use Rattle.dma_mem.proofs.table.no_chunks.Goals as goal

pub loop-chunk-init : goal.loop-chunk-init
loop-chunk-init c = record { long = ap length c.in_ok-chunks.ensures.items; none = λ p. ap (λ xs. get_or xs p []) c.in_ok-chunks.ensures.items }

pub loop-chunk-preserved : goal.loop-chunk-preserved
loop-chunk-preserved c = record {
  long = omega (arith, ap length c.in_ok-push.ensures.items, length-append {A = List ℕ});
  none = λ p. rw c.in_ok-push.ensures.items (none_more _ c.new.result c.new.ensures c.loop-chunk.invariant.none p);
}
