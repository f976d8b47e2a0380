use Rattle.std.proofs.Common.{◌≡◌, ◌≤◌, length, take}
use Rattle.dma_explain.specs.Items.{join_read, with_item}
use Rattle.dma_explain.proofs.explain.ranges.settled.Given as goal

abbrev pub invariant-loop-n : goal.invariant-loop-n
invariant-loop-n l = record {
  within : l.n ≤ length l.list;
  same : with_item join_read (take l.n l.list) l.last ≡ with_item join_read l.list l.fn.item;
}

abbrev pub decreases-loop-n : goal.decreases-loop-n
decreases-loop-n l = l.n
