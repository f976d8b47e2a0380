use Rattle.std.proofs.Common.{arith}
use Rattle.dma_mem.specs.Regions.{pieces_of, image_of}
use Rattle.dma_mem.proofs.WholeMemory.{whole_all}
use Rattle.dma_mem.proofs.regions.LentRegionsRam.prepare.Goals as goal

pub returns-clause-ok : goal.returns-clause-ok
returns-clause-ok c = whole_all (image_of (pieces_of c.args.self.now.regions.now)) c.args.segment.addr c.args.segment.len (omega (arith, c.size.ensures))
