use Rattle.std.proofs.Common.{rules}
use Rattle.dma_mem.proofs.RangeSets.{sources_from}
use Rattle.dma_engine.proofs.access.FrontRanges.set.Goals as goal

pub returns-clause-set : goal.returns-clause-set
returns-clause-set c = record {
  sources = sources_from c.set.new.self c.args.transfer.now c.src.ensures.rules (rw (← c.src.ensures.segments) (search (rules, c.in_ok-set.ensures.same)));
  destinations = rw (← c.dst.ensures.segments) (search (rules, c.in_ok-set-2.ensures.same));
}
