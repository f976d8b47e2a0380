use Rattle.dma_commands.proofs.{CopyEnds.copies_end, ScriptCopies.copies_are_whole}
use Rattle.dma_commands.proofs.ScriptReplies as script
use Rattle.dma_commands.proofs.laws.scripts_print_answers.Goals as goal

pub returns : goal.returns
returns c =
    record {
      lines = script.lines_print_answers;
      scripts = script.scripts_print_answers;
      replies = script.scripts_print_replies;
      copies = copies_are_whole copies_end;
    }
