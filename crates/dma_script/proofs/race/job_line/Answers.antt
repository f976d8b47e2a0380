use Rattle.std.proofs.Common.{ap, ◌∙◌, sym, Ok, Err}
use Rattle.std.proofs.lemmas.Result.{err_from_is_err_and}
use Rattle.dma_script.specs.{Words.words_of, inner.Reading.number_from}
use Rattle.dma_script.proofs.Reading.{a_job, job_read, no_job}
use Rattle.dma_script.proofs.race.job_line.Goals as goal

pub returns-in_err-end : goal.returns-in_err-end
returns-in_err-end c =
    let p = err_from_is_err_and c.from_residual.result c.from_residual.ensures.1 in
    rw (p.1, p.2) (job_read (words_of c.args.words.now) c.number-first.result c.number-last.result c.number-turns.result c.number-first.new.self
    c.number-last.new.self c.number-turns.new.self (Err c.in_err-end.field-0.0) (c.number-first.ensures ∙ ap number_from c.new-words.ensures)
    c.number-last.ensures c.number-turns.ensures c.in_err-end.ensures)

pub returns-then-first-last : goal.returns-then-first-last
returns-then-first-last c =
    sym (no_job (record { first = c.number-first.result; last = c.number-last.result; turns = c.number-turns.result }) c.then-first-last.either)
    ∙ job_read (words_of c.args.words.now) c.number-first.result c.number-last.result c.number-turns.result c.number-first.new.self c.number-last.new.self
    c.number-turns.new.self (Ok c.in_ok-end.field-0) (c.number-first.ensures ∙ ap number_from c.new-words.ensures) c.number-last.ensures
    c.number-turns.ensures c.in_ok-end.ensures

pub returns : goal.returns
returns c =
    sym (a_job (record { first = c.number-first.result; last = c.number-last.result; turns = c.number-turns.result }) c.if-first-last.false
    c.if-last-gt-LAST_CHANNEL.false)
    ∙ job_read (words_of c.args.words.now) c.number-first.result c.number-last.result c.number-turns.result c.number-first.new.self c.number-last.new.self
    c.number-turns.new.self (Ok c.in_ok-end.field-0) (c.number-first.ensures ∙ ap number_from c.new-words.ensures) c.number-last.ensures
    c.number-turns.ensures c.in_ok-end.ensures
