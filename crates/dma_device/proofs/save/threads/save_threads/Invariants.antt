use Rattle.std.proofs.Common.{◌≡◌, ◌++◌, drop, length, take}
use Rattle.std.specs.List.{flat_map}
use Rattle.dma_device.specs.Snapshot.{saved_thread}
use Rattle.dma_device.proofs.save.threads.save_threads.Given as goal

abbrev pub invariant-loop-n : goal.invariant-loop-n
invariant-loop-n l = record {
  at : l.at ≡ length (flat_map saved_thread (take l.n l.threads));
  out : l.out ≡ flat_map saved_thread (take l.n l.threads) ++ drop l.at l.initial.out;
}
