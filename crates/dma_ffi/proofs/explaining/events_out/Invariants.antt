use Rattle.std.proofs.Common.{◌≡◌, ◌++◌, take, drop, map}
use Rattle.dma_ffi.specs.Explaining.{event_at}
use Rattle.dma_ffi.proofs.explaining.events_out.Given as goal

abbrev pub invariant-loop-n : goal.invariant-loop-n
invariant-loop-n l = l.out ≡ map event_at (take l.n l.happenings) ++ drop l.n l.initial.out
