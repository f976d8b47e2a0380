use Rattle.std.proofs.Common.{arith}
use Rattle.dma_chan.proofs.ReadyLaws.{first_page}
use Rattle.dma_chan.proofs.pages.first_page.Goals as goal

pub returns-clause-made : goal.returns-clause-made
returns-clause-made c = λ m all. first_page m c.args.segment.addr c.args.segment.len (omega (arith, c.if-segment-eq0.false)) all
