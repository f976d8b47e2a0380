use Rattle.std.proofs.Common.{sym}
use Rattle.dma_text.proofs.DigitTable.{looked_up}
use Rattle.dma_text.proofs.digits.digit_value.Goals as goal

pub returns : goal.returns
returns c = rw c.from.ensures (sym (looked_up c.args.byte c.ranges.byte.fits))
