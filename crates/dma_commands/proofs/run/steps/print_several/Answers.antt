use Rattle.std.proofs.Common.{◌∙◌, ◌++◌, [], ap, append-nil, map, sym}
use Rattle.std.proofs.lemmas.Result.{on_ok_weaker}
use Rattle.dma_io.specs.Command.{text_of}
use Rattle.dma_commands.specs.{Printed.reply_text, Run.step_lines}
use Rattle.dma_commands.proofs.StepLemmas.{ended, text_cleared, whole_memory, whole_text}
use Rattle.dma_commands.proofs.run.steps.print_several.Goals as goal

pub returns-in-Some-clause-ok : goal.returns-in-Some-clause-ok
returns-in-Some-clause-ok c =
    let whole = c.in-Some.whole in
    on_ok_weaker c.print_transfer.result
    (λ p. p ∙ ap (λ l. c.args.out.now.items ++ l)
    (sym (whole_text c.args.ch whole.started whole.moved whole.finished c.args.replies.now c.in-Some.ensures.some c.in-Some.ensures.all)))
    c.print_transfer.ensures.ok

pub returns-in-Some-clause-printed : goal.returns-in-Some-clause-printed
returns-in-Some-clause-printed c =
    let whole = c.in-Some.whole in
    on_ok_weaker c.print_transfer.result (λ _. whole_memory whole.started whole.moved whole.finished c.args.replies.now c.in-Some.ensures.all)
    c.print_transfer.ensures.ok

pub returns-clause-ok : goal.returns-clause-ok
returns-clause-ok c =
    let ch = c.args.ch in
    let steps = c.take_all.new.self in
    let clear = c.clear.new.self in
    let texts = map reply_text c.args.replies.now in
    let lines = ended ch steps.lines.items c.end_line.new.self.lines.items steps.last.items steps.count c.in_ok-end_line.ensures.none
    c.in_ok-end_line.ensures.line
    ∙ c.in_ok-take_all.ensures.text [] ∙ text_cleared ch clear.lines.items clear.last.items clear.count (texts ++ []) c.clear.ensures.lines c.clear.ensures.count
    ∙ ap (λ l. text_of (step_lines ch l)) (append-nil texts) in
    on_ok_weaker c.print.result (λ p. p ∙ ap (λ l. c.args.out.now.items ++ l) (c.as_slice.ensures.value ∙ lines)) c.print.ensures.ok
