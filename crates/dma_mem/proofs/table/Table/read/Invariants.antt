use Rattle.std.proofs.Common.{◌-◌, ◌≤◌, length, take}
use Rattle.dma_mem.specs.inner.ChunkTable.{AreBytesFrom}
use Rattle.dma_mem.proofs.table.Table.read.Given as goal

abbrev pub invariant-loop-done : goal.invariant-loop-done
invariant-loop-done l = record { within : l.done ≤ length l.buf; filled : AreBytesFrom l.self l.start (take l.done l.buf) }

abbrev pub decreases-loop-done : goal.decreases-loop-done
decreases-loop-done l = length l.initial.buf - l.done
