use Rattle.std.proofs.Common.{◌-◌, ◌≡◌, ◌≤◌, length, take}
use Rattle.std.specs.Prelude.{replicate}
use Rattle.dma_mem.specs.declared.call.Call.TheVariants.{Step}
use Rattle.dma_engine.proofs.run.steps_ahead.Given as goal

abbrev pub invariant-loop-count : goal.invariant-loop-count
invariant-loop-count l = record {
  few : l.count ≤ length l.calls;
  steps : take l.count l.calls ≡ replicate l.count (Step l.ch);
}

abbrev pub decreases-loop-count : goal.decreases-loop-count
decreases-loop-count l = 4294967295 - l.count
