use Rattle.std.proofs.Common.{◌≡◌, drop}
use Rattle.std.specs.List.{list_any}
use Rattle.dma_device.specs.Thread.{can_step}
use Rattle.dma_device.proofs.device.any_can_step.Given as goal

abbrev pub invariant-loop-thread : goal.invariant-loop-thread
invariant-loop-thread l = list_any (can_step l.events) l.threads ≡ list_any (can_step l.events) (drop l.thread-index l.threads)
