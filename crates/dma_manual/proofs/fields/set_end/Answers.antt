use Rattle.std.proofs.Common.{arith}
use Rattle.std.proofs.lemmas.Grind.{common_steps}
use Rattle.dma_manual.proofs.fields.set_end.Goals as goal

pub returns-in-98 : goal.returns-in-98
returns-in-98 c = grind (arith, common_steps)

pub returns-in-115 : goal.returns-in-115
returns-in-115 c = grind (arith, common_steps)

pub returns-in-97 : goal.returns-in-97
returns-in-97 c = grind (arith, common_steps)

pub returns-in-112 : goal.returns-in-112
returns-in-112 c = grind (arith, common_steps)

pub returns-in-99 : goal.returns-in-99
returns-in-99 c = grind (arith, common_steps)

pub returns-in_default : goal.returns-in_default
returns-in_default c = grind (arith, common_steps)
