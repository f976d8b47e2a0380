use Rattle.std.proofs.Common.{◌≡◌, ◌++◌, length}
use Rattle.std.specs.Vec.Iter.{into_iter_items, into_iter_len}
use Rattle.dma_commands.specs.inner.Listed.{Reaches}
use Rattle.dma_commands.proofs.run.execute_all.Given as goal

abbrev pub invariant-loop-line : goal.invariant-loop-line
invariant-loop-line l = record {
  reached : Reaches l.initial.engine.view l.fn.statements l.initial.out.items l.engine.view (l.list ++ into_iter_items l.left) l.out.items;
  len : into_iter_len l.left ≡ length (into_iter_items l.left);
}

abbrev pub decreases-loop-line : goal.decreases-loop-line
decreases-loop-line l = length (into_iter_items l.left)
