use Rattle.std.proofs.Common.{arith}
use Rattle.std.proofs.Common.{ap, ◌∙◌, Err}
use Rattle.std.proofs.lemmas.Result.{err_from_is_err_and}
use Rattle.dma_script.specs.declared.fault.Cause.TheVariants.{BadChannels, SizeOutOfRange}
use Rattle.dma_script.specs.{Words.words_of, inner.Reading.within_from}
use Rattle.dma_mem.specs.Limits.{largest_size}
use Rattle.dma_script.proofs.Reading.{memory_read}
use Rattle.dma_script.proofs.statements.first_line.Goals as goal

pub returns-in_err-end : goal.returns-in_err-end
returns-in_err-end c =
    let p = err_from_is_err_and c.from_residual.result c.from_residual.ensures.1 in
    rw (p.1, p.2, c.in-Memory.is)
    (memory_read (words_of c.args.words.now) c.within-size.result c.within-channels.result c.within-size.new.self c.within-channels.new.self
    (Err c.in_err-end.field-0.0) (c.within-size.ensures.read ∙ ap (within_from 1 largest_size SizeOutOfRange) c.new-words.ensures)
    (c.within-channels.ensures.read ∙ ap (λ most. within_from 1 most BadChannels c.within-size.new.self) c.from.ensures) c.in_err-end.ensures)

pub returns : goal.returns
returns c = grind (arith, memory_read)
