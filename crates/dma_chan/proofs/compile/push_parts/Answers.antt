use Rattle.std.proofs.Common.{arith}
use Rattle.std.proofs.lemmas.Grind.{common_steps}
use Rattle.dma_chan.specs.Compiled.{parts}
use Rattle.dma_chan.proofs.compile.push_parts.Goals as goal

pub returns : goal.returns
unfolding parts
returns c = grind (arith, common_steps)
