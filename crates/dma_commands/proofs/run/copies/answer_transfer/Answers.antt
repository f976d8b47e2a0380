use Rattle.std.proofs.Common.{◌≡◌, ◌∙◌, sym, true, refl, codes}
use Rattle.std.proofs.lemmas.Result.{on_ok_weaker}
use Rattle.dma_commands.specs.{Printed.refused_line, Run.copied, Run.is_in_use, Run.one_line}
use Rattle.dma_commands.proofs.RunLemmas.{copy_runs, fit_runs, printed_runs, refused_copy_runs}
use Rattle.dma_commands.proofs.run.copies.answer_transfer.Goals as goal

pub returns-then-is_in_use : goal.returns-then-is_in_use
returns-then-is_in_use c =
    let v = c.args.engine.now.view in
    let result = c.print_line-then-is_in_use.result in
    let print = c.print_line-then-is_in_use.ensures in
    let used : is_in_use v ≡ true = sym c.is_in_use.ensures ∙ c.if-is_in_use.true in
    fit_runs (copied c.args.start.now v) v _ _ _ _ _ _ c.in-Ok.ensures.ok c.in-Ok.ensures.accepted
    (rw used (printed_runs (one_line (refused_line (codes "ChannelInUse")) v) v result _ _ (on_ok_weaker result (λ _. refl) print.ok) print.ok print.err))

pub returns-then-is_refused : goal.returns-then-is_refused
returns-then-is_refused c =
    let v = c.args.engine.now.view in
    let start = c.args.start.now in
    let print = c.print_line-then-is_refused.ensures in
    fit_runs (copied start v) v _ _ _ _ _ _ c.in-Ok.ensures.ok c.in-Ok.ensures.accepted
    (refused_copy_runs start v c.in-Ok.transfer (sym c.is_in_use.ensures ∙ c.if-is_in_use.false) _ c.in_ok-submitted.submitted _ _ _
    c.in_ok-submitted.ensures.answer (sym c.is_refused.ensures ∙ c.if-is_refused.true) print.ok print.err)

pub returns : goal.returns
returns c =
    let v = c.args.engine.now.view in
    let start = c.args.start.now in
    let print = c.print_line-2.ensures in
    fit_runs (copied start v) v _ _ _ _ _ _ c.in-Ok.ensures.ok c.in-Ok.ensures.accepted
    (copy_runs start v c.in-Ok.transfer (sym c.is_in_use.ensures ∙ c.if-is_in_use.false) c.reply_to.new.engine.view c.reply_to-2.new.engine.view _
    c.in_ok-submitted.submitted c.in_ok-reply_to.field-0 c.in_ok-last.last _ _ _ c.in_ok-submitted.ensures.answer
    (sym c.is_refused.ensures ∙ c.if-is_refused.false) c.in_ok-reply_to.ensures.answer c.in_ok-last.ensures print.ok print.err)
