use Rattle.std.proofs.Common.{refl}
use Rattle.dma_engine.specs.Object.{opening}
use Rattle.dma_mem.specs.Flags.{all_clear}
use Rattle.dma_engine.proofs.base.Base.opening.Goals as goal

pub returns : goal.returns
unfolding opening all_clear
returns c = rw (c.new.ensures, c.new-2.ensures, c.in_ok-channels.ensures) refl
