use Rattle.std.proofs.lemmas.Grind.{common_steps}
use Rattle.std.proofs.Common.{ap, ◌∙◌, sym, drop-cons, arith}
use Rattle.std.proofs.Math.ListN.{drop_of_length-le}
use Rattle.dma_chan.specs.Saved.{adler, checksum}
use Rattle.dma_chan.proofs.save.checksum_of.Goals as goal

pub loop-byte-preserved : goal.loop-byte-preserved
unfolding adler
loop-byte-preserved c = grind (arith, common_steps, drop-cons)

pub returns : goal.returns
unfolding adler checksum
returns c = ap (adler c.loop-byte.low c.loop-byte.high) (sym (drop_of_length-le c.args.bytes.now c.loop-byte-test.false)) ∙ c.loop-byte.invariant.others
