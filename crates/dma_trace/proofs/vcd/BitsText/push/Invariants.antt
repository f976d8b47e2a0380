-- The bits so far, followed by the rest, are all bits.
use Rattle.std.proofs.Common.{◌≡◌, ◌-◌, ◌++◌}
use Rattle.dma_text.specs.Text.{Begins}
use Rattle.dma_trace.specs.Vcd.{bits_text}
use Rattle.dma_trace.proofs.vcd.BitsText.push.Given as goal

abbrev pub invariant-loop-done : goal.invariant-loop-done
invariant-loop-done l = record {
  text : l.out.items ++ bits_text (l.width - l.done) l.value ≡ l.initial.out.items ++ bits_text l.width l.value;
  begins : Begins l.out.items l.initial.out.items;
}
