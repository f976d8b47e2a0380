use Rattle.std.proofs.Common.{◌≡◌, ◌+◌}
use Rattle.dma_engine.specs.Interleaved.{channel_at, rotation}
use Rattle.dma_work.specs.Rotation.{StepsInTurn}
use Rattle.dma_work.proofs.worker.take_turns.Given as goal

abbrev pub invariant-loop-n : goal.invariant-loop-n
invariant-loop-n g l = record {
  worker : g.S.Stepper.worker l.stepper ≡ g.S.Stepper.worker l.fn.stepper;
  there : l.ch ≡ channel_at l.job.first l.job.last l.n;
  acts : StepsInTurn g.S.Stepper.acts (rotation l.job.first l.job.last l.n) l.fn.stepper l.stepper;
  taken : g.S.Stepper.taken l.stepper ≡ g.S.Stepper.taken l.fn.stepper + l.n;
}
