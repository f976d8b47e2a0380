use Rattle.std.proofs.Common.{◌≡◌, take}
use Rattle.std.specs.Prelude.{replicate}
use Rattle.dma_device.specs.Thread.{reset_thread}
use Rattle.dma_device.proofs.device.reset_threads.Given as goal

abbrev pub invariant-loop-n : goal.invariant-loop-n
invariant-loop-n l = take l.n l.threads ≡ replicate l.n (reset_thread l.bus)
