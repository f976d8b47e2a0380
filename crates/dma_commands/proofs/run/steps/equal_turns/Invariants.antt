use Rattle.std.proofs.Common.{◌-◌, ◌≡◌, ◌≤◌, length, take}
use Rattle.std.specs.Prelude.{replicate}
use Rattle.dma_engine.specs.declared.call.Reply.TheVariants.{Turned}
use Rattle.dma_commands.proofs.run.steps.equal_turns.Given as goal

abbrev pub invariant-loop-count : goal.invariant-loop-count
invariant-loop-count l = record {
  few : l.count ≤ length l.replies;
  equal : take l.count l.replies ≡ replicate l.count (Turned l.turn);
}

abbrev pub decreases-loop-count : goal.decreases-loop-count
decreases-loop-count l = length l.replies - l.count
