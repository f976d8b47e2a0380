use Rattle.std.proofs.Common.{arith}
use Rattle.std.proofs.lemmas.Grind.{common_steps}
use Rattle.dma_script.proofs.race.RaceSoFarScript.take_line.Goals as goal

pub returns-in_err-word : goal.returns-in_err-word
returns-in_err-word c = grind (arith, common_steps)

pub returns-in_err-keyword : goal.returns-in_err-keyword
returns-in_err-keyword c = grind (arith, common_steps)

pub returns-in_default : goal.returns-in_default
returns-in_default c = grind (arith, common_steps)

pub returns-in_default-keyword : goal.returns-in_default-keyword
returns-in_default-keyword c = grind (arith, common_steps)

pub returns : goal.returns
returns c = grind (arith, common_steps)
