use Rattle.std.proofs.Common.{◌≡◌, ◌≤◌, ◌-◌, ◌++◌, List, ℕ, map}
use Rattle.std.specs.Prelude.{replicate}
use Rattle.dma_mem.specs.declared.call.Call.TheVariants.{Step}
use Rattle.dma_engine.specs.Answer.{answers}
use Rattle.dma_io.specs.Command.{text_of}
use Rattle.dma_commands.specs.{Printed.reply_text, inner.Counting.text_with, Run.step_lines}
use Rattle.dma_commands.proofs.run.steps.answer_steps.Given as goal

abbrev pub decreases-loop-left : goal.decreases-loop-left
decreases-loop-left l = l.left

abbrev pub invariant-loop-left : goal.invariant-loop-left
invariant-loop-left l =
    let so_far = answers l.fn.engine.view (replicate (l.count - l.left) (Step l.ch)) in
    record {
      left : l.left ≤ l.count;
      counted : l.steps.count ≤ l.count - l.left;
      view : l.engine.view ≡ so_far.1;
      text : (rest : List (List ℕ))
          → text_with l.ch l.steps.lines.items l.steps.last.items l.steps.count rest ≡ text_of (step_lines l.ch (map reply_text so_far.0 ++ rest));
    }
