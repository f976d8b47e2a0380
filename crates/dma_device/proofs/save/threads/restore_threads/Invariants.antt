use Rattle.std.proofs.Common.{◌≡◌, ℕ, List, ◌<◌, ◌≤◌, get_or, length, take}
use Rattle.std.specs.List.{All, flat_map}
use Rattle.dma_device.specs.{Snapshot.IsThreadValue, Snapshot.saved_thread, Thread.IsOn, Thread.IsSound, declared.thread.Thread.Thread}
use Rattle.dma_device.proofs.save.threads.restore_threads.Given as goal

abbrev pub invariant-loop-n : goal.invariant-loop-n
invariant-loop-n l = record {
  at : l.at ≤ length l.bytes;
  bytes : take l.at l.bytes ≡ flat_map saved_thread (take l.n l.threads);
  values : (k : ℕ) (d : Thread) → k < l.n → IsThreadValue l.config.events (get_or l.threads k d);
  sound : All (IsSound l.config.events) l.threads;
  on : All (IsOn l.config.bus) l.threads;
  all : (ts : List Thread) → length ts ≡ length l.threads → All (IsThreadValue l.config.events) ts → All (IsOn l.config.bus) ts
      → l.bytes ≡ flat_map saved_thread ts → take l.n l.threads ≡ take l.n ts;
}
