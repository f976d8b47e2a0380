use Rattle.std.proofs.Common.{ap, arith}
use Rattle.dma_mem.specs.Pages.{Paged}
use Rattle.dma_mem.proofs.PageImages.{made_tested, not_made_tested}
use Rattle.dma_mem.proofs.memory.Memory.made.Goals as goal

pub returns-then-end-size : goal.returns-then-end-size
returns-then-end-size c =
    made_tested c.self.inside.flags c.args.self.now c.args.segment.addr c.args.segment.len c.div_ceil.result c.are_set.result
    (ap (λ (m : Paged). m.made) c.self.view_is) (omega (arith, c.size.ensures.size, c.if-end-size.true)) (omega (arith, c.div_ceil.ensures))
    (omega (arith, c.if-start-end.false)) c.are_set.ensures.yes c.are_set.ensures.no

pub returns-else-end-size : goal.returns-else-end-size
returns-else-end-size c = grind (arith, not_made_tested)
