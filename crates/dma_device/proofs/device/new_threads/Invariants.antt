use Rattle.std.proofs.Common.{◌≡◌}
use Rattle.std.specs.Prelude.{replicate}
use Rattle.dma_device.specs.Thread.{reset_thread}
use Rattle.dma_device.proofs.device.new_threads.Given as goal

abbrev pub invariant-loop-n : goal.invariant-loop-n
invariant-loop-n l = l.threads.items ≡ replicate l._n (reset_thread l.bus)
