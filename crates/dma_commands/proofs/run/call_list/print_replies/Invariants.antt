use Rattle.std.proofs.Common.{◌≡◌, drop, length}
use Rattle.dma_engine.specs.{Answer.AreAnswers, View.View}
use Rattle.dma_commands.specs.inner.Listed.{IsWhole, Prints, statements_in}
use Rattle.dma_commands.proofs.run.call_list.print_replies.Given as goal

abbrev pub invariant-loop-line : goal.invariant-loop-line
invariant-loop-line l =
    let rest = drop l.line-index l.lines in
    record {
      whole : IsWhole rest l.calls;
      same : length l.replies ≡ length l.calls;
      printed : (v w : View) → AreAnswers v l.fn.calls l.fn.replies w
          → Prints v w (statements_in l.lines l.fn.calls) l.initial.out.items rest l.calls l.replies l.out.items;
    }
