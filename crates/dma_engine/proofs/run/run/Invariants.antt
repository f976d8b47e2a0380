use Rattle.std.proofs.Common.{◌≡◌, ◌≤◌, length}
use Rattle.std.specs.Vec.{vec_capacity}
use Rattle.dma_engine.specs.View.{IsSound, memory_of}
use Rattle.dma_engine.proofs.Runs.{RanCalls}
use Rattle.dma_engine.proofs.run.run.Given as goal

abbrev pub invariant-loop-left : goal.invariant-loop-left
invariant-loop-left l = record {
  ran : RanCalls l.initial.engine.view l.calls l.left l.replies.items l.engine.view;
  sound : IsSound l.engine.view;
  memory : l.engine.memory ≡ memory_of l.engine.view;
  room : length l.calls ≤ vec_capacity l.replies;
}

abbrev pub decreases-loop-left : goal.decreases-loop-left
decreases-loop-left l = length l.left
