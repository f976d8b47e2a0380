use Rattle.std.proofs.Common.{◌≡◌, ℕ, ◌*◌, ◌<◌, ◌≤◌, get_or, length, take}
use Rattle.std.specs.List.{flat_map}
use Rattle.dma_device.specs.{Snapshot.IsThreadValue, Snapshot.saved_thread, declared.thread.Thread.Thread}
use Rattle.dma_device.proofs.save.threads.threads_len.Given as goal

abbrev pub invariant-loop-n : goal.invariant-loop-n
invariant-loop-n l = record {
  len : l.len ≡ length (flat_map saved_thread (take l.n l.threads));
  limit : l.len ≤ 8520 * l.n;
  values : (k : ℕ) (d : Thread) → k < l.n → IsThreadValue l.events (get_or l.threads k d);
}
