use Rattle.dma_commands.proofs.AsmLemmas.{asm_prints}
use Rattle.dma_commands.proofs.asm.asm_prints.Goals as goal

pub returns : goal.returns
returns c = asm_prints
