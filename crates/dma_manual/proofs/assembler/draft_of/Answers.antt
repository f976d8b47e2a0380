use Rattle.std.proofs.Common.{arith}
use Rattle.dma_manual.proofs.Readings.{lines_end, lines_more}
use Rattle.dma_manual.proofs.assembler.draft_of.Goals as goal

pub loop-rest-preserved : goal.loop-rest-preserved
loop-rest-preserved c = record { counted = omega arith; reads = grind (arith, lines_more) }

pub returns : goal.returns
returns c = grind (arith, lines_end)
