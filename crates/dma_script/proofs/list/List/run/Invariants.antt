-- The lines taken so far ran, and what they printed is appended.
use Rattle.std.proofs.Common.{length}
use Rattle.std.specs.{List.All, Vec.Iter.into_iter_items}
use Rattle.dma_script.proofs.InterpretedLemmas.{RanSoFar}
use Rattle.dma_script.proofs.list.List.run.Given as goal

abbrev pub invariant-loop-line : goal.invariant-loop-line
invariant-loop-line g l = record {
  ran : RanSoFar g.I.Interpreter.acts l.initial.interpreter l.fn.self (into_iter_items l.left) l.interpreter l.initial.out.items l.out.items;
  taken : All g.I.Interpreter.takes (into_iter_items l.left);
  ready : g.I.Interpreter.is_ready l.interpreter;
}

abbrev pub decreases-loop-line : goal.decreases-loop-line
decreases-loop-line g l = length (into_iter_items l.left)
