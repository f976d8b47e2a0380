use Rattle.std.proofs.Common.{◌≡◌, take}
use Rattle.dma_engine.specs.Ticks.{ticks_of}
use Rattle.dma_work.specs.Ticks.{board_from}
use Rattle.dma_work.proofs.publisher.record_all.Given as goal

abbrev pub invariant-loop-index : goal.invariant-loop-index
invariant-loop-index l = record {
  log : l.log.all.log ≡ l.fn.log.all.log;
  ticks : l.log.all.ticks ≡ ticks_of (take l.index l.history);
  counts : l.counts ≡ board_from l.fn.base l.log.all.ticks;
}
