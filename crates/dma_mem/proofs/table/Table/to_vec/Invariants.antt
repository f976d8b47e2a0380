use Rattle.std.proofs.Common.{◌-◌, ◌≤◌, length}
use Rattle.dma_mem.specs.inner.ChunkTable.{AreBytesFrom}
use Rattle.dma_mem.proofs.table.Table.to_vec.Given as goal

abbrev pub invariant-loop-list : goal.invariant-loop-list
invariant-loop-list l = record { within : length l.list.items ≤ l.len; filled : AreBytesFrom l.self l.start l.list.items }

abbrev pub decreases-loop-list : goal.decreases-loop-list
decreases-loop-list l = l.len - length l.list.items
