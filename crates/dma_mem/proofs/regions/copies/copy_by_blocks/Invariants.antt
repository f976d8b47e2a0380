use Rattle.std.proofs.Common.{◌-◌, ◌≤◌, take, drop}
use Rattle.dma_mem.specs.{Regions.pieces_of, Regions.image_of, inner.Rewritten.Rewritten}
use Rattle.dma_mem.proofs.regions.copies.copy_by_blocks.Given as goal

abbrev pub invariant-loop-done : goal.invariant-loop-done
invariant-loop-done l = record {
  within : l.done ≤ l.len;
  copied : Rewritten l.fn.regions l.regions l.to (take l.done (drop l.from (image_of (pieces_of l.fn.regions))));
}

abbrev pub decreases-loop-done : goal.decreases-loop-done
decreases-loop-done l = l.len - l.done
