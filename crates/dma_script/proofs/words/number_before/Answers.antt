use Rattle.std.proofs.Common.{arith}
use Rattle.std.proofs.lemmas.Grind.{common_steps}
use Rattle.dma_script.proofs.SegmentLemmas.{number_is}
use Rattle.dma_script.proofs.words.number_before.Goals as goal

pub returns-in_default : goal.returns-in_default
returns-in_default c = rw (number_is c.args.stop c.args.word.now c.requires) (grind (arith, common_steps))

pub returns-in-48 : goal.returns-in-48
returns-in-48 c = rw (number_is c.args.stop c.args.word.now c.requires) (grind (arith, common_steps))
