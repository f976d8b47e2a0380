use Rattle.std.proofs.Common.{◌≡◌, take}
use Rattle.dma_mem.proofs.table.Table.try_copy.Given as goal

abbrev pub invariant-loop-group : goal.invariant-loop-group
invariant-loop-group l = l.groups.items ≡ take l.group-index l.group-items
