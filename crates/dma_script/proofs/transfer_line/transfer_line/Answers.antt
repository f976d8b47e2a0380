use Rattle.std.proofs.Common.{ap, ◌∙◌, sym, Ok, Err}
use Rattle.std.proofs.lemmas.Result.{err_from_is_err_and}
use Rattle.dma_script.specs.{Words.words_of, Arguments.makes, Plan.transfer, inner.Reading.transfer_from}
use Rattle.dma_script.proofs.Reading.{line_read}
use Rattle.dma_script.proofs.transfer_line.transfer_line.Goals as goal

pub returns-in_err-end : goal.returns-in_err-end
returns-in_err-end c =
    let p = err_from_is_err_and c.from_residual-in_err-end.result c.from_residual-in_err-end.ensures.1 in
    rw (p.1, p.2) (sym (line_read (transfer makes) (words_of c.args.words.now) (c.in_ok-line.line, c.transfer.new.words) (Err c.in_err-end.field-0.0)
    (c.in_ok-line.ensures ∙ ap transfer_from c.new-words.ensures) c.in_err-end.ensures))

pub returns : goal.returns
returns c = sym (line_read (transfer makes) (words_of c.args.words.now) (c.in_ok-line.line, c.transfer.new.words) (Ok c.in_ok-end.field-0)
    (c.in_ok-line.ensures ∙ ap transfer_from c.new-words.ensures) c.in_ok-end.ensures)
