use Rattle.std.proofs.Common.{ap, ◌∙◌, sym, Ok, Err}
use Rattle.std.proofs.lemmas.Result.{err_from_is_err_and}
use Rattle.dma_script.specs.{Words.words_of, inner.Reading.statement_added}
use Rattle.dma_script.proofs.Reading.{statement_read}
use Rattle.dma_script.proofs.statements.later_line.Goals as goal

pub returns-in_err-end : goal.returns-in_err-end
returns-in_err-end c =
    let p = err_from_is_err_and c.from_residual-in_err-end.result c.from_residual-in_err-end.ensures.1 in
    rw (p.1, p.2) (statement_read c.args.keyword (words_of c.args.words.now) c.args.statements.now c.read_statement.new.statements c.read_statement.new.words
    (Err c.in_err-end.field-0.0) (ap (statement_added c.args.keyword c.args.statements.now) (sym c.new-words.ensures) ∙ c.in_ok-read_statement.ensures)
    c.in_err-end.ensures)

pub returns : goal.returns
returns c = statement_read c.args.keyword (words_of c.args.words.now) c.args.statements.now c.read_statement.new.statements c.read_statement.new.words
    (Ok c.in_ok-end.field-0) (ap (statement_added c.args.keyword c.args.statements.now) (sym c.new-words.ensures) ∙ c.in_ok-read_statement.ensures)
    c.in_ok-end.ensures
