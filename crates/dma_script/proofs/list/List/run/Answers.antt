use Rattle.std.proofs.Common.{subst}
use Rattle.std.specs.{List.All, Vec.Iter.into_iter_items}
use Rattle.std.proofs.lemmas.List.Elements.{All-head}
use Rattle.dma_script.proofs.InterpretedLemmas.{ran_more, taken_rest}
use Rattle.dma_script.proofs.list.List.run.Goals as goal

pub interpret-requires-clause-taken : goal.interpret-requires-clause-taken
interpret-requires-clause-taken g c =
    All-head g.I.Interpreter.takes c.in-Some.line (into_iter_items c.next.new.self)
    (subst (All g.I.Interpreter.takes) c.in-Some.ensures.items c.loop-line.invariant.taken)

pub loop-line-preserved : goal.loop-line-preserved
loop-line-preserved g c = record {
  ran = ran_more g.I.Interpreter.acts c.args.interpreter.now c.args.self (into_iter_items c.loop-line.left) c.in-Some.line (into_iter_items c.next.new.self)
      c.loop-line.interpreter c.interpret.new.self c.args.out.now.items c.loop-line.out.items c.interpret.new.out.items c.loop-line.invariant.ran
      c.in-Some.ensures.items c.in_ok-interpret.ensures.ok;
  taken = taken_rest g.I.Interpreter.takes (into_iter_items c.loop-line.left) c.in-Some.line (into_iter_items c.next.new.self) c.in-Some.ensures.items
      c.loop-line.invariant.taken;
  ready = c.in_ok-interpret.ensures.ready_again;
}
