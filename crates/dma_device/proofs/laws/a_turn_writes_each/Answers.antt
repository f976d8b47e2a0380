use Rattle.dma_device.proofs.{RowWrites.rows_write_each, Writes.turn_writes_each, Writes.turn_writes_in_regions}
use Rattle.dma_device.proofs.laws.a_turn_writes_each.Goals as goal

pub returns : goal.returns
returns c = record { each = turn_writes_each; within = turn_writes_in_regions; rows = rows_write_each }
