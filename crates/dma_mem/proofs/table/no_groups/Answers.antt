use Rattle.std.proofs.Common.{List, ℕ, [], length, get_or, ap, arith}
use Rattle.std.proofs.lemmas.List.{length-append}
use Rattle.dma_mem.proofs.ChunkTables.{none_more}
use Rattle.dma_mem.proofs.table.no_groups.Goals as goal

pub loop-group-init : goal.loop-group-init
loop-group-init c = record { long = ap length c.in_ok-groups.ensures.items; none = λ g. ap (λ xs. get_or xs g []) c.in_ok-groups.ensures.items }

pub loop-group-preserved : goal.loop-group-preserved
loop-group-preserved c = record {
  long = omega (arith, ap length c.in_ok-push.ensures.items, length-append {A = List (List ℕ)});
  none = λ g. rw c.in_ok-push.ensures.items (none_more _ c.new.result c.new.ensures c.loop-group.invariant.none g);
}
