use Rattle.std.proofs.Common.{arith}
use Rattle.dma_engine.specs.View.{running}
use Rattle.dma_engine.proofs.WhatRuns.{few_byte, one_more_runs, runs_known}
use Rattle.dma_engine.proofs.engine.Engine.running_count.Goals as goal

pub loop-ch-preserved : goal.loop-ch-preserved
loop-ch-preserved c = grind (arith, one_more_runs, runs_known, few_byte)

pub returns : goal.returns
unfolding running
returns c = grind arith
