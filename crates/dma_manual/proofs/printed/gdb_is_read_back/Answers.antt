use Rattle.dma_manual.proofs.MarkedDumps.{gdb_is_read_back}
use Rattle.dma_manual.proofs.printed.gdb_is_read_back.Goals as goal

pub returns : goal.returns
returns c = gdb_is_read_back
