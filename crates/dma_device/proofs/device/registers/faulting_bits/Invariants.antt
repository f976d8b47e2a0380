use Rattle.std.proofs.Common.{◌≡◌, ◌-◌, ◌^◌, ◌<◌, ◌≤◌, drop, length}
use Rattle.dma_device.specs.Device.{faulting_bits}
use Rattle.dma_device.proofs.device.registers.faulting_bits.Given as goal

abbrev pub invariant-loop-n : goal.invariant-loop-n
invariant-loop-n l = record {
  index : l.n ≤ length l.threads;
  bits : l.bits ≡ faulting_bits (drop l.n l.threads);
  few : l.bits < 2 ^ (length l.threads - l.n);
}

abbrev pub decreases-loop-n : goal.decreases-loop-n
decreases-loop-n l = l.n
