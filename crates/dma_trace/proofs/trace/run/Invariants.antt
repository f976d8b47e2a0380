-- The lines and the waveform of the steps so far are appended.
use Rattle.std.proofs.Common.{◌≡◌}
use Rattle.dma_mem.specs.Regions.{image_of, pieces_of}
use Rattle.dma_chan.specs.LentRegions.{with_gaps_of}
use Rattle.dma_trace.specs.{Traced.opening, inner.Running.Goes, inner.Running.Waves}
use Rattle.dma_trace.proofs.trace.run.Given as goal

abbrev pub invariant-loop-steps : goal.invariant-loop-steps
invariant-loop-steps g l = record {
  goes : Goes l.options (with_gaps_of l.fn.regions l.marks) l.fn.regions (opening l.options l.program (image_of (pieces_of l.fn.regions))) l.steps l.channel
      l.regions l.events l.at l.fn.out.items l.out.items;
  wave : Waves l.options (with_gaps_of l.fn.regions l.marks) (opening l.options l.program (image_of (pieces_of l.fn.regions))) l.steps l.fn.wave.items
      l.wave.items;
  err : l.err.items ≡ l.fn.err.items;
}
