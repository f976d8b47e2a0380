use Rattle.dma_text.proofs.EightDigits.{pairs_joined}
use Rattle.dma_text.proofs.digits.hex_digits.Goals as goal

pub returns : goal.returns
returns c =
    pairs_joined c.args.value c.hex_pair.result c.hex_pair-2.result c.hex_pair-3.result c.hex_pair-4.result c.ranges.value.fits c.hex_pair.ensures
    c.hex_pair-2.ensures c.hex_pair-3.ensures c.hex_pair-4.ensures
