use Rattle.dma_work.proofs.PublishedRule.{grows, later_self}
use Rattle.dma_work.proofs.reader.look.Goals as goal

pub enter_as-requires : goal.enter_as-requires
enter_as-requires c x = grows _ _ x x (later_self x)
