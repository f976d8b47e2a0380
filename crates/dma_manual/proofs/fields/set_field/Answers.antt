use Rattle.std.proofs.Common.{arith}
use Rattle.std.proofs.lemmas.Grind.{common_steps}
use Rattle.dma_manual.proofs.fields.set_field.Goals as goal

pub returns-in-115 : goal.returns-in-115
returns-in-115 c = grind (arith, common_steps)

pub returns-in-100 : goal.returns-in-100
returns-in-100 c = grind (arith, common_steps)

pub returns-in_default : goal.returns-in_default
returns-in_default c = grind (arith, common_steps)
