use Rattle.std.proofs.Common.{◌≡◌, ◌-◌, ◌≤◌, true}
use Rattle.dma_chan.specs.declared.exec.Registers.{Registers}
use Rattle.dma_explain.specs.{Known.MayBegin, Known.is_known, declared.explain.known.Register.Register, inner.Knowing.over_in, inner.Tracing.Follows}
use Rattle.dma_explain.proofs.Knowing.{Keeps}
use Rattle.dma_explain.proofs.explain.explain_from.Given as goal

-- The tracer, with the registers of any start where they aren't known, follows the run from this start.
abbrev pub invariant-loop-steps : goal.invariant-loop-steps
invariant-loop-steps l = record {
  follows : (start : Registers) → MayBegin l.fn.given start → Follows start l.program l.steps (over_in l.tracer.known start l.tracer);
  keeps : Keeps l.program l.steps l.tracer;
  grows : (r : Register) → is_known r l.fn.given.known ≡ true → is_known r l.tracer.known ≡ true;
  few : l.steps ≤ l.most;
}

abbrev pub decreases-loop-steps : goal.decreases-loop-steps
decreases-loop-steps l = l.most - l.steps
