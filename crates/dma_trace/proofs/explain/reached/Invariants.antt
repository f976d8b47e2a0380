-- All registers are known, the run goes on, and the loads and stores of the address are those so far.
use Rattle.std.proofs.Common.{◌≡◌}
use Rattle.dma_explain.specs.inner.Tracing.{Follows}
use Rattle.dma_trace.specs.Touches.{touches_in}
use Rattle.dma_trace.proofs.Reached.{all_known}
use Rattle.dma_trace.proofs.explain.reached.Given as goal

abbrev pub invariant-loop-done : goal.invariant-loop-done
invariant-loop-done g l = record {
  known : l.tracer.known ≡ all_known;
  follows : Follows l.fn.start l.program l.done l.tracer;
  touches : l.touches ≡ touches_in l.fn.start l.program l.fn.addr l.done;
}
