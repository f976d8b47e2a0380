use Rattle.dma_commands.proofs.CopyEnds.{copies_end}
use Rattle.dma_commands.proofs.run.copies.copies_end.Goals as goal

pub returns : goal.returns
returns c = copies_end
