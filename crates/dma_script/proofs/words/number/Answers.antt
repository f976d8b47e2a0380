use Rattle.std.proofs.Common.{None, Some}
use Rattle.dma_script.proofs.SegmentLemmas.{number_read}
use Rattle.dma_script.proofs.words.number.Goals as goal

pub returns-in_err-number : goal.returns-in_err-number
returns-in_err-number c = rw c.from_residual.ensures (number_read c.args.word.now None c.in_err-number.ensures)

pub returns-in_default-None : goal.returns-in_default-None
returns-in_default-None c =
    let read = rw c.in_default-None.is-1 at c.in_ok-number.ensures in
    number_read c.args.word.now (Some (c.in_ok-number.field-0.0, None)) read

pub returns-in_default-Some : goal.returns-in_default-Some
returns-in_default-Some c =
    let read = rw c.in_default-Some.is-1 at c.in_ok-number.ensures in
    number_read c.args.word.now (Some (c.in_ok-number.field-0.0, Some c.in_default-Some.field-0-1.now)) read
