use Rattle.std.proofs.Common.{◌≡◌, drop}
use Rattle.std.specs.List.{list_any}
use Rattle.dma_device.specs.Thread.{is_faulting}
use Rattle.dma_device.proofs.device.registers.any_faulting.Given as goal

abbrev pub invariant-loop-thread : goal.invariant-loop-thread
invariant-loop-thread l = list_any is_faulting l.threads ≡ list_any is_faulting (drop l.thread-index l.threads)
