use Rattle.std.proofs.Common.{Err, ap, refl}
use Rattle.dma_io.specs.Command.{no_memory, reader_failed, too_long}
use Rattle.dma_io.proofs.command.input_of.Goals as goal

pub returns-in-Err-Failed-clause-unread : goal.returns-in-Err-Failed-clause-unread
returns-in-Err-Failed-clause-unread g c = reader_failed (c.in-Err-Failed.ensures.failed (ap Err c.in-Err-Failed.field-0-is)) c.finish.ensures

pub returns-in-Err-TooLong-clause-unread : goal.returns-in-Err-TooLong-clause-unread
returns-in-Err-TooLong-clause-unread g c =
    let why = c.in-Err-TooLong.field-0-is in
    too_long (c.in-Err-TooLong.ensures.too_long (ap Err why)) (c.in-Err-TooLong.ensures.unfailed (λ e. cc)) c.finish-in-Err-TooLong.ensures

pub returns-in-Err-NoMemory-clause-unread : goal.returns-in-Err-NoMemory-clause-unread
returns-in-Err-NoMemory-clause-unread g c =
    let why = c.in-Err-NoMemory.field-0-is in
    no_memory (c.in-Err-NoMemory.ensures.unfailed (λ e. cc)) (λ f. f) refl refl
