use Rattle.dma_work.proofs.PublishedRule.{grows}
use Rattle.dma_work.proofs.publisher.shown.Goals as goal

pub publish_as-writer-requires : goal.publish_as-writer-requires
publish_as-writer-requires g c next is = grows _ _ c.args.writer.desk.shown.value next (rw (is, c.requires.1) c.requires.2)
